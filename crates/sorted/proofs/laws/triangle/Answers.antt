-- The statement, proved.
use Rattle.sorted.proofs.Statements.{triangle}
use Rattle.sorted.proofs.laws.triangle.Goals as goal

pub returns : goal.returns
returns c = triangle
