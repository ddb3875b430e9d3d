-- What is told stands in the row. Assumes nothing: these are definitions.
--
--   Within r n    a row of n words holds the numbers that the reply r tells
use Rattle.std.specs.Prelude.{ℕ, ◌+◌, ◌≤◌}
use Rattle.decode.specs.declared.entry.Reply.{Reply}
use Rattle.decode.specs.declared.entry.Reply.TheVariants.{These, More, Refused}

abbrev pub Within : Reply → ℕ → Type 0
Within (These went came) n = went + came ≤ n
Within More n = Unit {0}
Within (Refused e) n = Unit {0}
