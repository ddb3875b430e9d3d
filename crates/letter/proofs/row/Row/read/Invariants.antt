-- The words that were read are fine, and stand in the row.
use Rattle.std.proofs.Common.{◌≡◌, length, get_or}
use Rattle.field.specs.Plain.{plain}
use Rattle.letter.specs.Slices.{ValuesTo}
use Rattle.letter.proofs.Filled.{Filled}
use Rattle.letter.proofs.row.Row.read.Given as goal

abbrev pub invariant-loop-i : goal.invariant-loop-i
invariant-loop-i g l =
    (length l.at ≡ 64)
    × Filled (λ k. get_or l.words k 0) (plain l.initial.at) (plain l.at) l.i
    × ValuesTo g.row.P l.words l.i
