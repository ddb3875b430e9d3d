use Rattle.letter.proofs.Worked.{points_lie_apart}
use Rattle.letter.proofs.theorems.points_lie_apart.Goals as goal

pub returns : goal.returns
returns c = points_lie_apart
