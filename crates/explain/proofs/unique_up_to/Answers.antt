use Rattle.std.proofs.Common.{refl}
use Rattle.explain.proofs.Reading.{one_explanation, one_explanation_parity}
use Rattle.explain.proofs.Uniqueness.{one_explanation_at}
use Rattle.explain.proofs.unique_up_to.Goals as goal

pub returns : goal.returns
returns c = record { exact = refl; plain = one_explanation; parity = one_explanation_parity; any_points = one_explanation_at }
