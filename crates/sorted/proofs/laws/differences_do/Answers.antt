-- The statement, proved.
use Rattle.sorted.proofs.Statements.{differences_do}
use Rattle.sorted.proofs.laws.differences_do.Goals as goal

pub returns : goal.returns
returns c = differences_do
