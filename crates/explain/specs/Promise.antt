-- What a letter can and cannot tell: each a statement that proofs/ proves. Assumes nothing: these are types.
-- Letters have m values, counted modulo a prime p; lists are rising, with numbers below p - m.
--
--   OneExplanation              two explanations of at most 2 m numbers together are one
--   TrueDifferenceExplains      what differs between two lists explains the letter of one beside the other
--   SameLetter                  two lists with the same letter are equal, or differ in more than 2 m numbers
--   BroughtTogether             reading a letter finds exactly what differs, up to d numbers, and tells from d + 1 up to
--                               2 m - d that they are too many
--   SomeLettersAlike            of more lists than there are rows of m values two have the same row, however it is made
--   powers p m                  p to the m: how many rows of m values there are
--   Parity                      the counts of a letter and a list decide whether what differs is even or odd
--   ..-parity                   the statement with its bound 2 m raised to 2 m + 1, which parity gives
use Rattle.std.specs.Prelude.{◌≡◌, ℕ, zero, suc, ◌+◌, ◌-◌, ◌*◌, ◌%◌, ◌<◌, ◌≤◌, true, ◌⊎◌, List, [], length, slice_index_or}
use Rattle.field.specs.Prime.{Prime}
use Rattle.sorted.specs.Lists.{rising, all_below, only, differ, brought}
use Rattle.letter.specs.Letter.{Letter, letter, Deed, end, bare}
use Rattle.explain.specs.Explanation.{Explains, Found, TooMany}

abbrev pub OneExplanation : Type 0
OneExplanation =
    (p m : ℕ) (l : Letter) (here g c h e : List ℕ) → Prime p → m < p → all_below (p - m) here ≡ true → rising here ≡ true →
    Explains p m l here g c → Explains p m l here h e → length g + length c + (length h + length e) ≤ 2 * m → (g ≡ h) × (c ≡ e)

abbrev pub Parity : Type 0
Parity =
    (p m : ℕ) (l : Letter) (here g c : List ℕ) → Explains p m l here g c →
    (length g + length c) % 2 ≡ (l.many + length here) % 2

abbrev pub OneExplanationParity : Type 0
OneExplanationParity =
    (p m : ℕ) (l : Letter) (here g c h e : List ℕ) → Prime p → m ≤ p → all_below (p - m) here ≡ true →
    Explains p m l here g c → Explains p m l here h e → length g + length c + (length h + length e) ≤ 2 * m + 1 → (g ≡ h) × (c ≡ e)

abbrev pub TrueDifferenceExplains : Type 0
TrueDifferenceExplains =
    (p m : ℕ) (there here : List ℕ) → rising there ≡ true → rising here ≡ true → all_below (p - m) there ≡ true →
    Explains p m (letter p m there) here (only here there) (only there here)

abbrev pub SameLetter : Type 0
SameLetter =
    (p m : ℕ) (xs ys : List ℕ) → Prime p → m < p → rising xs ≡ true → rising ys ≡ true → all_below (p - m) xs ≡ true → all_below (p - m) ys ≡ true →
    letter p m xs ≡ letter p m ys → (xs ≡ ys) ⊎ (2 * m < differ xs ys)

abbrev pub SameLetterParity : Type 0
SameLetterParity =
    (p m : ℕ) (xs ys : List ℕ) → Prime p → m ≤ p → rising xs ≡ true → rising ys ≡ true → all_below (p - m) xs ≡ true → all_below (p - m) ys ≡ true →
    letter p m xs ≡ letter p m ys → (xs ≡ ys) ⊎ (2 * m + 1 < differ xs ys)

-- There and here are two desks, each after any deeds of its own; the letter is there's.
abbrev pub BroughtTogether : Type 0
BroughtTogether =
    (p m d : ℕ) (ds es : List Deed) → Prime p → d ≤ m → m < p →
    let there = end p m (bare p m) ds in
    let here = end p m (bare p m) es in
    (differ there.list here.list ≤ d →
    Found p m d there.letter_now here.list (only here.list there.list) (only there.list here.list)
    × ((gone come : List ℕ) → Found p m d there.letter_now here.list gone come → brought here.list gone come ≡ there.list))
    × (d < differ there.list here.list → differ there.list here.list + d ≤ 2 * m → TooMany p m d there.letter_now here.list)

abbrev pub BroughtTogetherParity : Type 0
BroughtTogetherParity =
    (p m d : ℕ) (ds es : List Deed) → Prime p → d ≤ m → m ≤ p →
    let there = end p m (bare p m) ds in
    let here = end p m (bare p m) es in
    (differ there.list here.list ≤ d →
    Found p m d there.letter_now here.list (only here.list there.list) (only there.list here.list)
    × ((gone come : List ℕ) → Found p m d there.letter_now here.list gone come → brought here.list gone come ≡ there.list))
    × (d < differ there.list here.list → differ there.list here.list + d ≤ 2 * m + 1 → TooMany p m d there.letter_now here.list)

unfoldable pub powers : ℕ → ℕ → ℕ
powers p zero = 1
powers p (suc m) = p * powers p m

abbrev pub SomeLettersAlike : Type 0
SomeLettersAlike =
    (p m k : ℕ) (say : List ℕ → List ℕ) (lists : List (List ℕ)) →
    ((i : ℕ) → i < length lists → (length (say (slice_index_or lists i [])) ≡ m) × (all_below p (say (slice_index_or lists i [])) ≡ true)) →
    ((i j : ℕ) → i < length lists → j < length lists → slice_index_or lists i [] ≡ slice_index_or lists j [] → i ≡ j) →
    powers p m < length lists →
    (i : ℕ) × (j : ℕ) × (i < j) × (j < length lists) × (say (slice_index_or lists i []) ≡ say (slice_index_or lists j []))
