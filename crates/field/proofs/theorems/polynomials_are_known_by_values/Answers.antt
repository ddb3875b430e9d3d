use Rattle.std.proofs.Common.{arith}
use Rattle.field.proofs.Roots.{root_bound}
use Rattle.field.proofs.Monic.{agree}
use Rattle.field.proofs.Values.{value_zero, value_member}
use Rattle.field.proofs.theorems.polynomials_are_known_by_values.Goals as goal

pub returns : goal.returns
returns c =
    record {
      roots = root_bound;
      monic = agree;
      members = λ p z ns pr below small. (value_zero p z ns pr below small, λ here. value_member p z ns here (omega (arith, pr.0)));
    }
