use Rattle.std.proofs.Common.{None, Some, Ok, Err, refl, ap, ◌∙◌, inl, inr}
use Rattle.std.proofs.lemmas.Result.{err_from_is_err_and}
use Rattle.sorted.specs.Lists.{brought}
use Rattle.letter.specs.Desks.{desk_of, desk_size}
use Rattle.letter.proofs.Keeping.{up_to_date}
use Rattle.decode.specs.Numbers.{listed}
use Rattle.explain.proofs.Reading.{brought_together_parity}
use Rattle.sites.specs.Together.{TogetherSays, Unasked}
use Rattle.sites.proofs.Bringing.{truly_told, letter_size, unasked_here, read_there, unbrought, few_there, replaced_by}
use Rattle.sites.proofs.together.bring_together.Goals as goal

pub returns-in_err-letter : goal.returns-in_err-letter
unfolding Unasked
returns-in_err-letter g c =
    let p = err_from_is_err_and c.from_residual.result c.from_residual.ensures.1 in
    let m = c.args.m in
    let d = c.args.d in
    let here = c.args.here.now in
    let there = c.args.there.now in
    let short = c.in_err-letter.ensures in
    let e = c.in_err-letter.field-0.0 in
    let says : TogetherSays g.row.P m d (desk_of there).list (desk_size there) (desk_of here) (desk_size here) (desk_of here) (Err e) =
    (refl, inl (inl (short.1, inl short.0))) in
    rw (p.1, p.2)
    (record {
      says = says;
      truly = truly_told m d there here (desk_of here) (Err e) says;
      size = refl;
      right = up_to_date here;
      promise = brought_together_parity;
    })

pub returns-in_err-difference : goal.returns-in_err-difference
returns-in_err-difference g c =
    let p = err_from_is_err_and c.from_residual-in_err-difference.result c.from_residual-in_err-difference.ensures.1 in
    let m = c.args.m in
    let d = c.args.d in
    let here = c.args.here.now in
    let there = c.args.there.now in
    let sent = c.in_ok-letter.ensures in
    let e = c.in_err-difference.field-0.0 in
    let says : TogetherSays g.row.P m d (desk_of there).list (desk_size there) (desk_of here) (desk_size here) (desk_of here) (Err e) = (
      refl,
      inl
          (unasked_here m c.in_ok-letter.letter.values.len d (desk_size there) (desk_size here) e sent.0
          (letter_size m c.in_ok-letter.letter (desk_of there).list sent.1) c.in_err-difference.ensures),
    ) in
    rw (p.1, p.2)
    (record {
      says = says;
      truly = truly_told m d there here (desk_of here) (Err e) says;
      size = refl;
      right = up_to_date here;
      promise = brought_together_parity;
    })

pub returns-in_default : goal.returns-in_default
returns-in_default g c =
    let m = c.args.m in
    let d = c.args.d in
    let here = c.args.here.now in
    let there = c.args.there.now in
    let read =
    read_there m d c.in_ok-letter.letter (desk_of there).list (desk_of here).list (desk_size there) (desk_size here) _ None
    c.in_default.is c.in_ok-letter.ensures c.in_ok-difference.ensures in
    let says : TogetherSays g.row.P m d (desk_of there).list (desk_size there) (desk_of here) (desk_size here) (desk_of here) (Ok None) =
    (read.0, (read.1, refl)) in
    record {
      says = says;
      truly = truly_told m d there here (desk_of here) (Ok None) says;
      size = refl;
      right = up_to_date here;
      promise = brought_together_parity;
    }

pub returns-in_err-exchange : goal.returns-in_err-exchange
returns-in_err-exchange g c =
    let p = err_from_is_err_and c.from_residual-in_err-exchange.result c.from_residual-in_err-exchange.ensures.1 in
    let m = c.args.m in
    let d = c.args.d in
    let here = c.args.here.now in
    let there = c.args.there.now in
    let f = c.in-Some.difference in
    let e = c.in_err-exchange.field-0.0 in
    let after = c.exchange.new.self in
    let not = c.in_err-exchange.ensures.done in
    let read =
    read_there m d c.in_ok-letter.letter (desk_of there).list (desk_of here).list (desk_size there) (desk_size here) _ (Some f)
    c.in-Some.is c.in_ok-letter.ensures c.in_ok-difference.ensures in
    let says : TogetherSays g.row.P m d (desk_of there).list (desk_size there) (desk_of here) (desk_size here) (desk_of after) (Err e) = (
      not.same,
      inr (
        read.0,
        unbrought g.row.P m d (desk_size here) (desk_of there).list (desk_of here).list (listed f.gone) (listed f.come) e
            (up_to_date here).in_order (few_there there) read.1
            (replaced_by g.row.P (desk_size here) (desk_of here).list c.gone.result.now (listed f.gone) c.come.result.now (listed f.come) e
            c.gone.ensures c.come.ensures not.why),
      ),
    ) in
    rw (p.1, p.2)
    (record {
      says = says;
      truly = truly_told m d there here (desk_of after) (Err e) says;
      size = c.exchange.ensures.size;
      right = up_to_date after;
      promise = brought_together_parity;
    })

pub returns : goal.returns
returns g c =
    let m = c.args.m in
    let d = c.args.d in
    let here = c.args.here.now in
    let there = c.args.there.now in
    let f = c.in-Some.difference in
    let after = c.exchange.new.self in
    let read =
    read_there m d c.in_ok-letter.letter (desk_of there).list (desk_of here).list (desk_size there) (desk_size here) _ (Some f)
    c.in-Some.is c.in_ok-letter.ensures c.in_ok-difference.ensures in
    let says : TogetherSays g.row.P m d (desk_of there).list (desk_size there) (desk_of here) (desk_size here) (desk_of after) (Ok (Some f)) = (
      read.0,
      record {
        told = read.1;
        list_is =
            c.in_ok-exchange.ensures.done.list_is
            ∙ ap (λ t. brought (desk_of here).list t c.come.result.now) c.gone.ensures
            ∙ ap (brought (desk_of here).list (listed f.gone)) c.come.ensures;
      },
    ) in
    record {
      says = says;
      truly = truly_told m d there here (desk_of after) (Ok (Some f)) says;
      size = c.exchange.ensures.size;
      right = up_to_date after;
      promise = brought_together_parity;
    }
