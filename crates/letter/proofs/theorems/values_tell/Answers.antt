use Rattle.letter.proofs.Right.{never_nothing, values_multiply}
use Rattle.letter.proofs.Worked.{order_free}
use Rattle.letter.proofs.theorems.values_tell.Goals as goal

pub returns : goal.returns
returns c = record { nonzero = never_nothing; products = values_multiply; order = order_free }
