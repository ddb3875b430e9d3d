use Rattle.std.proofs.Common.{◌<◌, set, None, Some, Ok, vec_len, refl, ap, ◌∙◌, inl, inr, arith}
use Rattle.std.proofs.lemmas.Result.{err_from_is_err_and}
use Rattle.sites.specs.Asking.{AskSays, Unasked}
use Rattle.sites.specs.Ladder.{gone_of, come_of}
use Rattle.sites.specs.Network.{Absent, lists_of}
use Rattle.sites.specs.Taking.{taken_up}
use Rattle.sites.proofs.Answering.{met_at, unasked_truly, together_truly, more_truly, unmet_truly, answers_at, unanswered_at, unmet_at}
use Rattle.sites.proofs.Listing.{sites_count, list_here, lists_set, lists_kept, right}
use Rattle.sites.proofs.network.Sites.ask.Goals as goal

pub returns-in_err-here : goal.returns-in_err-here
unfolding Unasked Absent
returns-in_err-here g c =
    let p = err_from_is_err_and c.from_residual.result c.from_residual.ensures.1 in
    let s = c.args.self.now in
    let absent = c.in_err-here.ensures in
    rw (p.1, p.2)
    (record {
      says = (refl, inl absent);
      truly = unasked_truly g.row.P c.args.i c.args.j c.args.way (lists_of s) _ (λ between. omega (arith, between.asker, absent.1));
      right = right s;
    })

pub returns-in_err-there : goal.returns-in_err-there
unfolding Unasked Absent
returns-in_err-there g c =
    let p = err_from_is_err_and c.from_residual-in_err-there.result c.from_residual-in_err-there.ensures.1 in
    let s = c.args.self.now in
    let absent = c.in_err-there.ensures in
    rw (p.1, p.2)
    (record {
      says = (refl, inr (inl (absent.0, (c.in_ok-here.ensures.0, inl absent.1))));
      truly = unasked_truly g.row.P c.args.i c.args.j c.args.way (lists_of s) _ (λ between. omega (arith, between.asked, absent.1));
      right = right s;
    })

pub returns-then-i-j : goal.returns-then-i-j
unfolding Unasked
returns-then-i-j g c =
    let s = c.args.self.now in
    record {
      says = (refl, inr (inl ((refl, refl), (c.in_ok-here.ensures.0, inr c.if-i-j.true))));
      truly = unasked_truly g.row.P c.args.i c.args.j c.args.way (lists_of s) _ (λ between. between.apart c.if-i-j.true);
      right = right s;
    }

pub returns-in_default : goal.returns-in_default
returns-in_default g c =
    let s = c.args.self.now in
    let i = c.args.i in
    let j = c.args.j in
    let here = c.in_ok-here.here.now in
    let there = c.in_ok-there.there.now in
    let two = met_at there here (lists_of s) i j c.in_ok-here.ensures c.in_ok-there.ensures c.if-i-j.false in
    let says : AskSays g.row.P i j c.args.way (lists_of s) (lists_of s) (Ok None) =
    (two.between, (unanswered_at there here (lists_of s) i j c.args.way two c.in_default.ensures, refl)) in
    record { says = says; truly = more_truly there here (lists_of s) i j c.args.way two (lists_of s) says; right = right s }

pub index_mut-requires : goal.index_mut-requires
index_mut-requires g c = omega (arith, c.in_ok-here.ensures.0, c.in_ok-there.ensures.0, sites_count c.args.self.now)

pub returns : goal.returns
returns g c =
    let s = c.args.self.now in
    let i = c.args.i in
    let j = c.args.j in
    let here = c.in_ok-here.here.now in
    let there = c.in_ok-there.there.now in
    let two = met_at there here (lists_of s) i j c.in_ok-here.ensures c.in_ok-there.ensures c.if-i-j.false in
    let inside : c.args.i < vec_len c.args.self.now.sites = omega (arith, c.in_ok-here.ensures.0, sites_count s) in
    let x = c.index_mut.result.now in
    let list_is = list_here s i x inside c.index_mut.ensures.value in
    let r = c.in-Some.reading in
    let after = lists_set s _ i c.take_up.new.self refl in
    let says : AskSays g.row.P i j c.args.way (lists_of s) _ (Ok (Some r)) = (
      two.between,
      (
        answers_at there here (lists_of s) i j c.args.way two r c.in-Some.ensures,
        after
            ∙ ap (set (lists_of s) i)
            (c.in_ok-take_up.ensures ∙ ap (λ ns. taken_up c.args.way ns (gone_of r) (come_of r)) list_is),
      ),
    ) in
    record { says = says; truly = together_truly there here (lists_of s) i j c.args.way two _ r says; right = right _ }

pub returns-in_err-take_up : goal.returns-in_err-take_up
unfolding Unasked
returns-in_err-take_up g c =
    let p = err_from_is_err_and c.from_residual-in_err-take_up.result c.from_residual-in_err-take_up.ensures.1 in
    let s = c.args.self.now in
    let i = c.args.i in
    let j = c.args.j in
    let here = c.in_ok-here.here.now in
    let there = c.in_ok-there.there.now in
    let two = met_at there here (lists_of s) i j c.in_ok-here.ensures c.in_ok-there.ensures c.if-i-j.false in
    let inside : c.args.i < vec_len c.args.self.now.sites = omega (arith, c.in_ok-here.ensures.0, sites_count s) in
    let x = c.index_mut.result.now in
    let list_is = list_here s i x inside c.index_mut.ensures.value in
    let r = c.in-Some.reading in
    let not = c.in_err-take_up.ensures in
    let same = lists_kept s _ i c.take_up.new.self refl (not.0 ∙ list_is) in
    let unmet = unmet_at there here (lists_of s) i j c.args.way two x r _ list_is c.in-Some.ensures not.1 in
    rw (p.1, p.2)
    (record {
      says = (same, inr (inr (two.between, unmet)));
      truly = unmet_truly there here (lists_of s) i j c.args.way two _ _ same unmet;
      right = right _;
    })
