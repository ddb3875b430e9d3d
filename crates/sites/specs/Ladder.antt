-- Letters that are asked for again with more values. A rung of m values is read with the allowance m - 1: it finds up to
-- m - 1 differences, and tells truly that there are more up to m + 2. Beyond that an explanation that fits it at every
-- point may be taken for the difference. Assumes nothing: these are definitions.
--
--   rungs                    how many values letters are asked for with, one after the other
--   SaysMore p there here m      the letter of the list there with m values, read beside the list here, tells that more differ
--   Answers p there here ms sent r   of the rungs ms the first that does not say so is read as r; `sent` values were sent before
--   Unanswered p there here ms   all rungs of ms say so
--   Truthful p there here    each rung that may be taken in is not
--   gone_of r, come_of r     the numbers gone and come of a reading
--   Reads p there here m sent r  the letter with m values is read as r, after `sent` values were sent
use Rattle.std.specs.Prelude.{◌≡◌, ℕ, ◌+◌, ◌-◌, ◌<◌, true, ◌⊎◌, List, [], ◌∷◌}
use Rattle.sorted.specs.Lists.{has, differ}
use Rattle.letter.specs.Letter.{letter}
use Rattle.explain.specs.Explanation.{TooMany}
use Rattle.decode.specs.Beside.{ToldBy}
use Rattle.decode.specs.Numbers.{listed}
use Rattle.sites.specs.declared.ladder.Reading.{Reading}

abbrev pub rungs : List ℕ
rungs = 4 ∷ 8 ∷ 16 ∷ 32 ∷ 64 ∷ []

unfoldable pub SaysMore : ℕ → List ℕ → List ℕ → ℕ → Type 0
SaysMore p there here m = TooMany p m (m - 1) (letter p m there) here

abbrev pub gone_of : Reading → List ℕ
gone_of r = listed r.difference.gone

abbrev pub come_of : Reading → List ℕ
come_of r = listed r.difference.come

-- the letter of m values is read: the numbers told explain it at every point, and nothing else of at most m - 1 numbers does
pub record Reads (p : ℕ) (there here : List ℕ) (m sent : ℕ) (r : Reading) : Type 0 where
  pub values_is : r.values ≡ m
  pub sent_is : r.sent ≡ sent + m
  pub told : ToldBy p m (m - 1) (letter p m there) here (gone_of r) (come_of r)

unfoldable pub Answers : ℕ → List ℕ → List ℕ → List ℕ → ℕ → Reading → Type 0
Answers p there here [] sent r = ⊥
Answers p there here (m ∷ ms) sent r =
    Reads p there here m sent r ⊎ (SaysMore p there here m × Answers p there here ms (sent + m) r)

unfoldable pub Unanswered : ℕ → List ℕ → List ℕ → List ℕ → Type 0
Unanswered p there here [] = Unit {0}
Unanswered p there here (m ∷ ms) = SaysMore p there here m × Unanswered p there here ms

unfoldable pub Truthful : ℕ → List ℕ → List ℕ → Type 0
Truthful p there here = (m : ℕ) → has rungs m ≡ true → m + 2 < differ there here → SaysMore p there here m
