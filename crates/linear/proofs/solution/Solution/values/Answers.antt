use Rattle.std.proofs.Common.{rules}
use Rattle.linear.proofs.Places.{numbers_take}
use Rattle.linear.proofs.solution.Solution.values.Goals as goal

pub returns : goal.returns
returns g c = search (rules, numbers_take)
