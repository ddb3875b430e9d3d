-- The part of the slice that is checked is the list, or as much of it as there is.
use Rattle.std.proofs.Common.{◌≡◌, ℕ, ◌<◌, ◌≤◌, List, length, get_or, take, drop, refl, ap, ◌∙◌, subst, arith, rules}
use Rattle.std.proofs.lemmas.List.{take_rest, length-drop}
use Rattle.sorted.specs.Faults.{FirstFault, Faultless}
use Rattle.letter.proofs.Words.{list_fault_first, list_fault_number, list_fault_missing, list_sound}
use Rattle.letter.proofs.slices.list_in.Goals as goal

pub returns-in_default : goal.returns-in_default
returns-in_default c =
    let none : length c.args.here.now ≤ 0 = search rules in
    record { told = refl; fault = list_fault_first c.args.bound c.args.here.now none }

pub returns-in-Some : goal.returns-in-Some
returns-in-Some c =
    let xs = c.args.here.now in
    let n = c.min-there.result in
    let first : 0 < length c.args.here.now = search rules in
    let size = length-drop 1 xs in
    let whole = take_rest xs 1 in
    let long = ap (λ (ys : List ℕ). length ys) whole in
    record {
      told = refl;
      fault =
          list_fault_number c.args.bound xs n c.in-Some.i first (omega arith) (omega arith)
          (subst (λ (ys : List ℕ). FirstFault c.args.bound (take n ys) c.in-Some.i) whole c.in-Some.ensures);
    }

pub returns-then-there-count : goal.returns-then-there-count
returns-then-there-count c =
    let xs = c.args.here.now in
    let n = c.min-there.result in
    let first : 0 < length c.args.here.now = search rules in
    let size = length-drop 1 xs in
    let whole = take_rest xs 1 in
    let long = ap (λ (ys : List ℕ). length ys) whole in
    record {
      told = refl;
      fault =
          list_fault_missing c.args.bound xs n first (omega arith) c.if-there-count.true
          (subst (λ (ys : List ℕ). Faultless c.args.bound (take n ys)) whole c.in_default-first_fault.ensures);
    }

pub returns : goal.returns
returns c =
    let xs = c.args.here.now in
    let n = c.min-there.result in
    let first : 0 < length c.args.here.now = search rules in
    let size = length-drop 1 xs in
    let whole = take_rest xs 1 in
    let long = ap (λ (ys : List ℕ). length ys) whole in
    let all : c.min-there.result ≡ get_or c.args.here.now 0 0 = omega arith in
    let is = ap (λ (ys : List ℕ). take n ys) whole ∙ ap (λ (k : ℕ). take k (drop 1 xs)) all in (
      is,
      list_sound c.args.bound xs first (omega arith)
          (subst (λ (ys : List ℕ). Faultless c.args.bound ys) is c.in_default-first_fault.ensures),
    )
