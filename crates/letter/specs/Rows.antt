-- What a row holds, as plain numbers.
--
--   numbers r    the numbers of a row, as many as it has
use Rattle.std.specs.Prelude.{ℕ, List, take}
use Rattle.field.specs.Plain.{plain}
use Rattle.letter.specs.declared.row.Row.{Row}

unfoldable pub numbers : {p : ℕ} → Row p → List ℕ
numbers r = take r.len (plain r.at)
