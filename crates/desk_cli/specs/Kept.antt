-- The line of the letter at the end. Assumes nothing: this is a definition.
--
--   kept_text m ns   the line of the letter of ns with m values
use Rattle.std.specs.Prelude.{ℕ, List}
use Rattle.letter.specs.Letter.{letter}
use Rattle.lines.specs.Text.{letter_text}

abbrev pub kept_text : ℕ → List ℕ → List ℕ
kept_text m ns = letter_text (letter 65537 m ns).many (letter 65537 m ns).at
