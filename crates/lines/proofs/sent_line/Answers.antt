use Rattle.std.proofs.Common.{rules}
use Rattle.letter.specs.Letters.{letter_of}
use Rattle.lines.proofs.sent_line.Goals as goal

pub returns : goal.returns
unfolding letter_of
returns g c = search rules
