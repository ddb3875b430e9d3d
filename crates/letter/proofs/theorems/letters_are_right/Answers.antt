use Rattle.letter.proofs.Right.{letters_right}
use Rattle.letter.proofs.theorems.letters_are_right.Goals as goal

pub returns : goal.returns
returns c = letters_right
