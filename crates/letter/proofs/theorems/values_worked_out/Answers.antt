use Rattle.letter.proofs.Worked.{worked}
use Rattle.letter.proofs.theorems.values_worked_out.Goals as goal

pub returns : goal.returns
returns c = worked
