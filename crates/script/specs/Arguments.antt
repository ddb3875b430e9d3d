-- The words of a request after the first, as its reader goes through them. Assumes nothing: these are definitions.
--
--   single, pair, pair_and_way   a number, two, or two and a way
--   FitBoth, FitTwo              the numbers of the last two are below 2^64
use Rattle.std.specs.Prelude.{ℕ, List, [], ◌∷◌, decimal}
use Rattle.script.specs.Reads.{Fits}
use Rattle.script.specs.Requests.{way_word}
use Rattle.script.specs.declared.Way.{Way}

abbrev pub single : ℕ → List (List ℕ)
single n = decimal n ∷ []

abbrev pub pair : ℕ × ℕ → List (List ℕ)
pair p = decimal p.0 ∷ decimal p.1 ∷ []

abbrev pub pair_and_way : ℕ × ℕ × Way → List (List ℕ)
pair_and_way t = decimal t.0 ∷ decimal t.1 ∷ way_word t.2 ∷ []

abbrev pub FitBoth : ℕ × ℕ → Type 0
FitBoth p = Fits p.0 × Fits p.1

abbrev pub FitTwo : ℕ × ℕ × Way → Type 0
FitTwo t = Fits t.0 × Fits t.1
