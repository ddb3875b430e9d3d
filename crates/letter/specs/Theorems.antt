-- What letters promise: each a statement that proofs/Right.antt proves. Assumes nothing: these are types.
--
--   LettersRight      after any deeds a desk's letter is the letter of its list, which is rising and below p - m
--   NeverNothing      no value of a letter is 0
--   ValuesMultiply    the value of two lists put one after the other is the product of their values
--   OrderFree         so the order in which they are put does not matter
--   PointsApart       the points are distinct and below p, and no number below p - m is one
--   Worked            the values of some lists at the points 65536, 65535 and 65534
use Rattle.std.specs.Prelude.{◌≡◌, ℕ, ◌-◌, ◌*◌, ◌%◌, ◌<◌, ◌≤◌, true, List, [], ◌∷◌, ◌++◌, ◌≢◌, slice_index}
use Rattle.field.specs.Prime.{Prime}
use Rattle.field.specs.Polynomial.{value, Among, Distinct, Below}
use Rattle.sorted.specs.Lists.{rising, all_below}
use Rattle.letter.specs.Letter.{points, values, letter, Deed, end, bare}

abbrev pub LettersRight : Type 0
LettersRight =
    (p m : ℕ) (ds : List Deed) → Prime p → m < p →
    let d = end p m (bare p m) ds in
    (d.letter_now ≡ letter p m d.list) × (rising d.list ≡ true) × (all_below (p - m) d.list ≡ true)

abbrev pub NeverNothing : Type 0
NeverNothing = (p m i : ℕ) (ns : List ℕ) → Prime p → m < p → all_below (p - m) ns ≡ true → i < m → value p (slice_index (points p m) i) ns ≢ 0

abbrev pub ValuesMultiply : Type 0
ValuesMultiply = (p z : ℕ) (xs ys : List ℕ) → 0 < p → value p z (xs ++ ys) ≡ (value p z xs * value p z ys) % p

abbrev pub OrderFree : Type 0
OrderFree = (p z : ℕ) (xs ys : List ℕ) → 0 < p → value p z (xs ++ ys) ≡ value p z (ys ++ xs)

abbrev pub PointsApart : Type 0
PointsApart =
    (p m : ℕ) → m ≤ p → Distinct (points p m) × Below p (points p m) × ((n : ℕ) → n < p - m → Among n (points p m) → ⊥)

abbrev pub Worked : Type 0
Worked =
    (points 65537 3 ≡ 65536 ∷ 65535 ∷ 65534 ∷ [])
    × (values 65537 (points 65537 3) [] ≡ 1 ∷ 1 ∷ 1 ∷ [])
    × (values 65537 (points 65537 3) (5 ∷ []) ≡ 65531 ∷ 65530 ∷ 65529 ∷ [])
    × (values 65537 (points 65537 3) (5 ∷ 9 ∷ []) ≡ 60 ∷ 77 ∷ 96 ∷ [])
    × (values 65537 (points 65537 3) (3 ∷ 5 ∷ 20 ∷ []) ≡ 65033 ∷ 64767 ∷ 64433 ∷ [])
    × (values 65537 (points 65537 3) (3 ∷ 9 ∷ 20 ∷ 31 ∷ []) ≡ 26880 ∷ 39930 ∷ 56304 ∷ [])
