use Rattle.linear.proofs.Verdicts.{unsolvable_from}
use Rattle.linear.proofs.system.System.solve.Goals as goal

pub returns-then-is_inconsistent : goal.returns-then-is_inconsistent
returns-then-is_inconsistent g c =
    unsolvable_from c.args.self c.eliminate.result.system.now c.eliminate.ensures c.if-is_inconsistent.ensures
