use Rattle.std.proofs.Common.{◌%◌}
use Rattle.field.proofs.Congruence.{add_cong}
use native.Mathlib.Nat.{mod-mod}
use Rattle.explain.proofs.Reading as reading
use Rattle.explain.proofs.Uniqueness as any_points
use Rattle.explain.proofs.parity.Goals as goal

pub returns : goal.returns
returns c =
    record {
      exact = add_cong 2 (c.args.many % 2) c.args.many (c.args.here % 2) c.args.here (mod-mod c.args.many 2) (mod-mod c.args.here 2);
      of_explanations = reading.parity;
      true_difference = reading.true_difference_explains;
      true_difference_at = any_points.true_difference_at;
    }
