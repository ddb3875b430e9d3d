use Rattle.field.proofs.Pigeonhole.{pigeonhole}
use Rattle.field.proofs.theorems.two_share_a_hole.Goals as goal

pub returns : goal.returns
returns c = pigeonhole
