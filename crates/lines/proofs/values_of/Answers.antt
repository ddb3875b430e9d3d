use Rattle.std.proofs.Common.{rules}
use Rattle.field.specs.Plain.{plain}
use Rattle.lines.proofs.values_of.Goals as goal

pub returns : goal.returns
unfolding plain
returns g c = search rules
