-- What a letter says.
--
--   letter_of l     a letter's count and its values, as plain numbers
use Rattle.std.specs.Prelude.{ℕ}
use Rattle.letter.specs.Letter.{Letter as Said}
use Rattle.letter.specs.Rows.{numbers}
use Rattle.letter.specs.declared.letters.Letter.{Letter}

unfoldable pub letter_of : {p : ℕ} → Letter p → Said
letter_of l = record { many = l.count; at = numbers l.values }
