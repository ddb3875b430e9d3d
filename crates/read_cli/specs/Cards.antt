-- Cards in bytes, two for each, the low one first. Assumes nothing: these are definitions.
--
--   cards n bs     the first n cards
--   card_list bs   the list of all cards: their number, which counts one that is cut short, and those that are whole
use Rattle.std.specs.Prelude.{ℕ, zero, suc, ◌+◌, ◌*◌, ◌/◌, ◌%◌, List, [], ◌∷◌, ◌++◌, length, slice_index}

unfoldable pub cards : ℕ → List ℕ → List ℕ
cards zero bs = []
cards (suc n) bs = cards n bs ++ (slice_index bs (2 * n) + 256 * slice_index bs (2 * n + 1)) ∷ []

abbrev pub card_list : List ℕ → List ℕ
card_list bs = (length bs / 2 + length bs % 2) ∷ cards (length bs / 2) bs
