-- What a row of numbers holds. Assumes nothing: these are definitions.
--
--   listed ns    the numbers of a row, as many as it has
use Rattle.std.specs.Prelude.{ℕ, List, take}
use Rattle.decode.specs.declared.numbers.Numbers.{Numbers}

unfoldable pub listed : Numbers → List ℕ
listed ns = take ns.len ns.at
