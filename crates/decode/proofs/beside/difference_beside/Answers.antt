use Rattle.std.proofs.Common.{◌≡◌, ℕ, ◌-◌, ◌<◌, sym, refl, ap, ◌∙◌, subst, inl, inr, arith}
use Rattle.std.proofs.lemmas.Result.{err_from_is_err_and}
use Rattle.sorted.specs.Lists.{all_below, rising}
use Rattle.letter.specs.Desks.{desk_of, desk_size}
use Rattle.letter.specs.Letter.{points, values}
use Rattle.letter.specs.Letters.{letter_of}
use Rattle.letter.specs.Rows.{numbers}
use Rattle.decode.specs.Beside.{Unread}
use Rattle.decode.proofs.Answer.{differs_by, kept_values, kept_length}
use Rattle.decode.proofs.Evaluation.{below_weaker, numbers_length}
use Rattle.decode.proofs.beside.difference_beside.Goals as goal

pub returns-in_err-kept : goal.returns-in_err-kept
unfolding Unread
returns-in_err-kept g c =
    let told = err_from_is_err_and c.from_residual.result c.from_residual.ensures.1 in
    let m-is = c.len-m.ensures ∙ ap (λ r. r.len) c.values.ensures in
    let short = c.in_err-kept.ensures in
    rw (told.1, told.2) (inl (short.1, subst (λ (k : ℕ). desk_size c.args.desk.now < k) m-is short.0))

pub returns-then-d-m : goal.returns-then-d-m
unfolding Unread
returns-then-d-m g c =
    let m-is : c.len-m.result ≡ c.args.letter.values.len = c.len-m.ensures ∙ ap (λ r. r.len) c.values.ensures in
    let kept = c.in_ok-kept.ensures.0 in
    inr ((refl, refl), (omega (arith, m-is, kept), omega (arith, m-is, c.if-d-m.true)))

pub invariant_of-question : goal.invariant_of-question
unfolding letter_of desk_of
invariant_of-question g c =
    let p = g.row.P in
    let desk = c.args.desk.now in
    let kept = c.in_ok-kept.ensures in
    let made = rw c.unwrap.ensures at c.points_for.ensures in
    let m : ℕ = c.len-m.result in
    let m-is : c.len-m.result ≡ c.args.letter.values.len = c.len-m.ensures ∙ ap (λ r. r.len) c.values.ensures in
    let len_is : c.unwrap.result.len ≡ c.len-m.result = made.2 in
    let own_is = kept_values p m (letter_of c.in_ok-kept.kept) (desk_of desk).list _ kept.1 (ap numbers c.values-2.ensures) in
    record {
      room = omega (arith, made.1, len_is);
      spots = made.3 ∙ ap (points p) (sym len_is);
      sent = sym m-is ∙ sym len_is;
      size = sym (numbers_length c.values-2.result) ∙ kept_length p m (desk_of desk).list _ own_is ∙ sym len_is;
      right = own_is ∙ ap (λ t. values p (points p t) (desk_of desk).list) (sym len_is) ∙ ap (values p (points p c.unwrap.result.len)) (sym c.list.ensures);
      rises = ap rising c.list.ensures ∙ desk.list.sorted;
      below =
          ap (all_below (p - c.unwrap.result.len)) c.list.ensures
          ∙ below_weaker (p - desk.nodes.len) (p - c.unwrap.result.len) (desk_of desk).list (omega (arith, kept.0, len_is)) desk.below;
      allowed = omega (arith, len_is, c.if-d-m.false);
    }

pub returns : goal.returns
returns g c =
    let made = rw c.unwrap.ensures at c.points_for.ensures in
    let kept = c.in_ok-kept.ensures in
    let m-is : c.len-m.result ≡ c.args.letter.values.len = c.len-m.ensures ∙ ap (λ r. r.len) c.values.ensures in
    record {
      kept = omega (arith, kept.0, m-is);
      allowed = omega (arith, m-is, c.if-d-m.false);
      says = differs_by g.row.P _ _ c.args.d _ _ _ _ c.difference.result (made.2 ∙ m-is) refl c.list.ensures c.difference.ensures;
    }
