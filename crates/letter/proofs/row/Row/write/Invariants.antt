-- The first numbers of the row are written.
use Rattle.std.proofs.Common.{◌≡◌, ◌++◌, length, take, drop}
use Rattle.letter.specs.Rows.{numbers}
use Rattle.letter.proofs.row.Row.write.Given as goal

abbrev pub invariant-loop-i : goal.invariant-loop-i
invariant-loop-i g l =
    (length l.x-items ≡ l.fn.self.len) × (l.out ≡ take l.i (numbers l.fn.self) ++ drop l.i l.initial.out)
