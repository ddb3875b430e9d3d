-- The statement, proved.
use Rattle.sorted.proofs.Statements.{same_members}
use Rattle.sorted.proofs.laws.same_members.Goals as goal

pub returns : goal.returns
returns c = same_members
