-- That the bounds are reached: lists that a letter cannot tell apart, and letters that are read amiss, one number past
-- what is promised. Assumes nothing: these are definitions and types.
--
--   Alike p m xs ys                       two lists with the same letter of m values that differ in 2 m + 2 numbers
--   Amiss p m d there here gone come      the letter of there beside here is explained by at most d numbers that do not
--                                         make there of here, where 2 m + 2 - d numbers differ
--   BoundReached                          of more than p to the m lists of m + 1 numbers each two are alike
--   ListsAlike, LettersAmiss              tables of examples
use Rattle.std.specs.Prelude.{◌≡◌, ℕ, ◌+◌, ◌-◌, ◌*◌, ◌<◌, ◌≤◌, true, List, [], ◌∷◌, length, slice_index_or}
use Rattle.field.specs.Prime.{Prime}
use Rattle.sorted.specs.Lists.{rising, all_below, differ, brought}
use Rattle.letter.specs.Letter.{letter}
use Rattle.explain.specs.Explanation.{Found}
use Rattle.explain.specs.Promise.{powers}

pub record Alike (p m : ℕ) (xs ys : List ℕ) : Type 0 where
  pub xs_rising : rising xs ≡ true
  pub ys_rising : rising ys ≡ true
  pub xs_below : all_below (p - m) xs ≡ true
  pub ys_below : all_below (p - m) ys ≡ true
  pub letters : letter p m xs ≡ letter p m ys
  pub apart : differ xs ys ≡ 2 * m + 2

pub record Amiss (p m d : ℕ) (there here gone come : List ℕ) : Type 0 where
  pub there_rising : rising there ≡ true
  pub here_rising : rising here ≡ true
  pub there_below : all_below (p - m) there ≡ true
  pub here_below : all_below (p - m) here ≡ true
  pub found : Found p m d (letter p m there) here gone come
  pub other : brought here gone come ≡ there → ⊥
  pub past : differ there here + d ≡ 2 * m + 2

abbrev pub BoundReached : Type 0
BoundReached =
    (p m : ℕ) (lists : List (List ℕ)) → Prime p → m ≤ p →
    ((i : ℕ) → i < length lists →
    (rising (slice_index_or lists i []) ≡ true) × (all_below (p - m) (slice_index_or lists i []) ≡ true) × (length (slice_index_or lists i []) ≡ m + 1)) →
    ((i j : ℕ) → i < length lists → j < length lists → slice_index_or lists i [] ≡ slice_index_or lists j [] → i ≡ j) →
    powers p m < length lists →
    (i : ℕ) × (j : ℕ) × (i < j) × (j < length lists) × Alike p m (slice_index_or lists i []) (slice_index_or lists j [])

abbrev pub ListsAlike : Type 0
ListsAlike =
    Alike 13 0 (0 ∷ []) (1 ∷ [])
    × Alike 13 1 (0 ∷ 7 ∷ []) (1 ∷ 3 ∷ [])
    × Alike 13 2 (0 ∷ 7 ∷ 9 ∷ []) (1 ∷ 2 ∷ 8 ∷ [])
    × Alike 13 3 (0 ∷ 4 ∷ 7 ∷ 8 ∷ []) (1 ∷ 2 ∷ 5 ∷ 9 ∷ [])
    × Alike 65537 1 (0 ∷ 5 ∷ []) (1 ∷ 2 ∷ [])
    × Alike 65537 2 (2 ∷ 9 ∷ 13 ∷ []) (3 ∷ 4 ∷ 20 ∷ [])

abbrev pub LettersAmiss : Type 0
LettersAmiss =
    Amiss 13 1 1 (1 ∷ 3 ∷ []) (0 ∷ []) [] (7 ∷ [])
    × Amiss 13 2 1 (1 ∷ 2 ∷ 8 ∷ []) (0 ∷ 7 ∷ []) [] (9 ∷ [])
    × Amiss 65537 1 1 (1 ∷ 2 ∷ []) (0 ∷ []) [] (5 ∷ [])
    × Amiss 65537 2 1 (3 ∷ 4 ∷ 20 ∷ []) (2 ∷ 9 ∷ []) [] (13 ∷ [])
    × Amiss 65537 2 2 (3 ∷ 4 ∷ 20 ∷ []) (2 ∷ []) [] (9 ∷ 13 ∷ [])
