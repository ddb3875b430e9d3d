use Rattle.std.proofs.Common.{refl}
use Rattle.linear.specs.Systems.{equations}
use Rattle.linear.proofs.system.System.new.Goals as goal

pub returns : goal.returns
unfolding equations
returns g c = record { narrow = c.if-unknowns-gt-LIMIT.false; unknowns = refl; none = refl }
