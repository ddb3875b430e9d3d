use Rattle.std.proofs.Common.{arith}
use Rattle.explain.proofs.Reading.{same_letter, same_letter_parity}
use Rattle.explain.proofs.Uniqueness.{same_values_at}
use Rattle.explain.proofs.Sharp.{bound_reached, lists_alike}
use Rattle.explain.proofs.alike_from.Goals as goal

pub returns : goal.returns
returns c =
    record {
      exact = omega (arith, c.unique_up_to.ensures.exact);
      plain = same_letter;
      parity = same_letter_parity;
      any_points = same_values_at;
      reached = bound_reached;
      examples = lists_alike;
    }
