-- The words of a line. Assumes nothing: these are definitions.
--
--   blank b    a byte that is a space, a tab or a carriage return; the newline after a line is not of the line
--   words bs   the words of a line: the runs of bytes between blanks, in their order
--   cut w bs   the words of bs with the bytes w before it, which have no blank
use Rattle.std.specs.Prelude.{ℕ, Bool, cond, ◌||◌, List, [], ◌∷◌, ◌++◌, ◌==◌}

abbrev pub blank : ℕ → Bool
blank b = b == 32 || (b == 9 || b == 13)

-- nothing is no word
abbrev pub some_word : List ℕ → List (List ℕ)
some_word [] = []
some_word (b ∷ w) = (b ∷ w) ∷ []

unfoldable pub cut : List ℕ → List ℕ → List (List ℕ)
cut w [] = some_word w
cut w (b ∷ bs) = cond (blank b) (some_word w ++ cut [] bs) (cut (w ++ b ∷ []) bs)

unfoldable pub words : List ℕ → List (List ℕ)
words bs = cut [] bs
