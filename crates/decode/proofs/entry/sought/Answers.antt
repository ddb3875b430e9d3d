use Rattle.std.proofs.Common.{◌≡◌, ℕ, ◌-◌, get_or, sym, refl, ap, ◌∙◌, subst, inl, inr, arith, lit<}
use Rattle.std.proofs.lemmas.Result.{err_from_is_err_and}
use Rattle.sorted.specs.Lists.{all_below, rising}
use Rattle.letter.specs.Letter.{points, values}
use Rattle.letter.specs.Slices.{ListSound, ListRefused, list_in}
use Rattle.decode.specs.Entry.{Due}
use Rattle.decode.proofs.Answer.{differs_by}
use Rattle.decode.proofs.Evaluation.{below_weaker}
use Rattle.decode.proofs.entry.sought.Goals as goal

pub returns-in_err-letter : goal.returns-in_err-letter
unfolding Due
returns-in_err-letter g c =
    let told = err_from_is_err_and c.from_residual.result c.from_residual.ensures.1 in
    rw (told.1, told.2) (inl (c.in_err-letter.ensures.told, c.in_err-letter.ensures.fault))

pub returns-in_err-list : goal.returns-in_err-list
unfolding Due
returns-in_err-list g c =
    let told = err_from_is_err_and c.from_residual-in_err-list.result c.from_residual-in_err-list.ensures.1 in
    let read = c.in_ok-letter.ensures in
    let m-is : c.len-m.result ≡ get_or c.args.note.now 0 0 =
    c.len-m.ensures ∙ ap (λ r. r.len) c.values.ensures ∙ read.size in
    let refused =
    subst (λ (k : ℕ). ListRefused (g.row.P - k) c.args.here.now c.in_err-list.field-0.0) m-is c.in_err-list.ensures in
    rw (told.1, told.2) (inr (inl (refused.told, (read.sound, refused.fault))))

pub returns-then-d-m : goal.returns-then-d-m
unfolding Due
returns-then-d-m g c =
    let read = c.in_ok-letter.ensures in
    let m-is : c.len-m.result ≡ get_or c.args.note.now 0 0 =
    c.len-m.ensures ∙ ap (λ r. r.len) c.values.ensures ∙ read.size in
    let sound = subst (λ (k : ℕ). ListSound (g.row.P - k) c.args.here.now) m-is c.in_ok-list.ensures.1 in
    inr (inr (inl ((refl, refl), (read.sound, sound, omega (arith, m-is, c.if-d-m.true)))))

pub returns-in_err-room_for : goal.returns-in_err-room_for
unfolding Due
returns-in_err-room_for g c =
    let told = err_from_is_err_and c.from_residual-in_err-room_for.result c.from_residual-in_err-room_for.ensures.1 in
    let read = c.in_ok-letter.ensures in
    let m-is : c.len-m.result ≡ get_or c.args.note.now 0 0 =
    c.len-m.ensures ∙ ap (λ r. r.len) c.values.ensures ∙ read.size in
    let sound = subst (λ (k : ℕ). ListSound (g.row.P - k) c.args.here.now) m-is c.in_ok-list.ensures.1 in
    let short = c.in_err-room_for.ensures in
    rw (told.1, told.2) (inr (inr (inr (short.0, (read.sound, sound, omega (arith, m-is, c.if-d-m.false), short.1)))))

pub values_at-requires : goal.values_at-requires
values_at-requires g c =
    let listed = c.in_ok-list.ensures in (
      lit< tt,
      (
        lit< tt,
        ap (all_below g.row.P) listed.0
            ∙ below_weaker (g.row.P - c.len-m.result) g.row.P (list_in c.args.here.now) (omega arith) listed.1.below,
      ),
    )

pub invariant_of-question : goal.invariant_of-question
invariant_of-question g c =
    let p = g.row.P in
    let list = c.in_ok-list.ensures in
    let made = c.in-Some.ensures in
    let nodes = c.in-Some.nodes in
    let len_is : c.in-Some.nodes.len ≡ c.len-m.result = made.2 in
    let spots = made.3 ∙ ap (points g.row.P) (sym len_is) in
    record {
      room = omega (arith, made.1, len_is);
      spots = spots;
      sent = sym (ap (λ r. r.len) c.values.ensures) ∙ sym c.len-m.ensures ∙ sym len_is;
      size = c.values_at.ensures.len;
      right = c.values_at.ensures.values ∙ ap (λ t. values p t c.in_ok-list.list.now) spots;
      rises = ap rising list.0 ∙ list.1.rises;
      below =
          ap (λ t. all_below (p - t) c.in_ok-list.list.now) len_is
          ∙ ap (all_below (p - c.len-m.result)) list.0
          ∙ list.1.below;
      allowed = omega (arith, len_is, c.if-d-m.false);
    }

pub returns : goal.returns
returns g c =
    let read = c.in_ok-letter.ensures in
    let list = c.in_ok-list.ensures in
    let m-is : c.len-m.result ≡ get_or c.args.note.now 0 0 =
    c.len-m.ensures ∙ ap (λ r. r.len) c.values.ensures ∙ read.size in (
      record {
        letter = read.sound;
        list = subst (λ (k : ℕ). ListSound (g.row.P - k) c.args.here.now) m-is list.1;
        allowed = omega (arith, m-is, c.if-d-m.false);
        room = c.in_ok-room_for.ensures;
      },
      differs_by g.row.P _ _ c.args.d _ _ _ _ c.difference.result (c.in-Some.ensures.2 ∙ m-is) read.says list.0 c.difference.ensures,
    )
