-- Which word is at fault follows from the test that failed.
use Rattle.std.proofs.Common.{◌≡◌, ℕ, ◌+◌, ◌<◌, ◌≤◌, List, length, get_or, take, refl, ap, ◌∙◌, subst, arith, rules}
use Rattle.std.proofs.lemmas.Result.{err_from_is_err_and}
use Rattle.letter.specs.Rows.{numbers}
use Rattle.letter.specs.Slices.{ValuesTo, ValueFault}
use Rattle.letter.specs.declared.row.Row.{Row}
use Rattle.letter.specs.declared.refusals.Refusal.TheVariants.{Letter}
use Rattle.letter.proofs.Words.{ok_passed_on, err_passed_on, after, length_after, count_is, values_are, letter_says, letter_fault_first, letter_fault_second, letter_fault_value, letter_sound}
use Rattle.letter.proofs.slices.read_letter.Goals as goal
use Rattle.letter.proofs.slices.read_letter.Goals.{then-m-via-then-m, then-m-via-else-m+then-m-2}

pub returns-in_default : goal.returns-in_default
returns-in_default g c =
    let none : length c.args.note.now ≤ 0 = search rules in
    record { told = refl; fault = letter_fault_first g.row.P c.args.note.now (λ f. omega (arith, f.0)) }

pub returns-then-m : goal.returns-then-m
returns-then-m g c =
    record {
      told = refl;
      fault =
          letter_fault_first g.row.P c.args.note.now
          (λ f.
          elim c.then-m.branch [
            | then-m-via-then-m w ↦ omega (arith, f.1, w.if-m.true)
            | then-m-via-else-m+then-m-2 w ↦ omega (arith, f.2, w.if-m-2.true)
          ]);
    }

pub returns-in_default-rest : goal.returns-in_default-rest
returns-in_default-rest g c =
    let xs = c.args.note.now in
    let first : 0 < length c.args.note.now = search rules in
    let none : length (after c.args.note.now) ≤ 0 = search rules in
    record {
      told = refl;
      fault =
          letter_fault_second g.row.P xs (first, c.if-m.false, c.if-m-2.false)
          (λ f. omega (arith, f.0, length_after xs));
    }

pub returns-then-count : goal.returns-then-count
returns-then-count g c =
    let xs = c.args.note.now in
    let first : 0 < length c.args.note.now = search rules in
    record {
      told = refl;
      fault =
          letter_fault_second g.row.P xs (first, c.if-m.false, c.if-m-2.false)
          (λ f. omega (arith, f.1, c.if-count.true, count_is xs));
    }

pub returns : goal.returns
returns g c =
    let xs = c.args.note.now in
    let m = get_or xs 0 0 in
    let read = ok_passed_on _ _ _ c.read.result c.in_ok-row.row c.in_ok-row.ensures.cases c.read.ensures in
    let made = c.new.ensures in
    let first : 0 < length c.args.note.now = search rules in
    let more : 0 < length (after c.args.note.now) = search rules in
    record {
      sound =
          letter_sound g.row.P xs (first, c.if-m.false, c.if-m-2.false)
          (omega (arith, length_after xs), omega (arith, c.if-count.false, count_is xs))
          (subst (λ (ys : List ℕ). ValuesTo g.row.P ys m) (values_are xs) read.2);
      says =
          letter_says xs c.new.result (made.0 ∙ count_is xs)
          (ap (λ (r : Row g.row.P). numbers r) made.1 ∙ read.1 ∙ ap (λ (ys : List ℕ). take m ys) (values_are xs));
      size = ap (λ (r : Row g.row.P). r.len) made.1 ∙ read.0;
    }

pub returns-in_err-row : goal.returns-in_err-row
returns-in_err-row g c =
    let p = err_from_is_err_and c.from_residual.result c.from_residual.ensures.1 in
    let q = err_passed_on _ _ _ c.read.result c.in_err-row.field-0.0 c.in_err-row.ensures.cases c.read.ensures in
    let xs = c.args.note.now in
    let first : 0 < length c.args.note.now = search rules in
    let more : 0 < length (after c.args.note.now) = search rules in
    let is : c.in_err-row.field-0.0 ≡ Letter (2 + q.0) = search rules in
    rw (p.1, p.2, is)
    (record {
      told = refl;
      fault =
          letter_fault_value g.row.P xs q.0 (first, c.if-m.false, c.if-m-2.false)
          (omega (arith, length_after xs), omega (arith, c.if-count.false, count_is xs))
          (subst (λ (ys : List ℕ). ValueFault g.row.P ys (get_or xs 0 0) q.0) (values_are xs) q.2);
    })
