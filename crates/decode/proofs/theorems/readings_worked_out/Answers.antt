use Rattle.decode.proofs.Worked.{readings}
use Rattle.decode.proofs.theorems.readings_worked_out.Goals as goal

pub returns : goal.returns
returns c = readings
