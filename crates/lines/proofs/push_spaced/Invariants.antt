use Rattle.std.proofs.Common.{◌≡◌, ◌++◌, take, string_bytes}
use Rattle.lines.specs.Text.{spaced}
use Rattle.lines.proofs.push_spaced.Given as goal

-- the numbers so far stand at the line's end
abbrev pub invariant-loop-n : goal.invariant-loop-n
invariant-loop-n l = string_bytes l.line ≡ string_bytes l.initial.line ++ spaced (take l.n-index l.numbers)
