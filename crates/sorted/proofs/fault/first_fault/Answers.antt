-- Each turn checks one more place.
use Rattle.std.proofs.Common.{◌≡◌, ◌+◌, ◌-◌, get_or, ap, arith}
use Rattle.std.proofs.lemmas.Bool.Decides.{nat_tests}
use Rattle.sorted.proofs.Faults.{fine_none, fine_more, first_fault, faultless}
use Rattle.sorted.proofs.fault.first_fault.Goals as goal

pub loop-i-init : goal.loop-i-init
loop-i-init c = record { fine = fine_none _ _; first = λ e. e; above = λ l. absurd (omega arith) }

pub returns-then-n-least : goal.returns-then-n-least
returns-then-n-least c = first_fault _ _ _ c.loop-i-test.true c.loop-i.invariant.fine (λ f. grind (arith, nat_tests))

pub loop-i-preserved : goal.loop-i-preserved
loop-i-preserved c =
    let back : c.loop-i.i ≡ c.loop-i.i + 1 - 1 = omega arith in
    record {
      fine = fine_more _ _ _ c.loop-i.invariant.fine (grind (arith, nat_tests));
      first = λ e. omega arith;
      above = λ l. ap (λ k. get_or c.args.list.now k 0 + 1) back;
    }

pub returns : goal.returns
returns c = faultless _ _ _ c.loop-i-test.false c.loop-i.invariant.fine
