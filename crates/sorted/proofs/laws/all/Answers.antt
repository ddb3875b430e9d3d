-- The statement, proved.
use Rattle.sorted.proofs.Statements.{laws}
use Rattle.sorted.proofs.laws.all.Goals as goal

pub returns : goal.returns
returns c = laws
