-- The laws of lists by rising number. The first three and the last are each the contract of a function of `laws`.
-- DifferencesDo      what differs, taken out and put in, makes one list of the other
-- Triangle           from one list to another it is no further than by way of a third
-- SameMembers        two rising lists with the same members are equal
-- Insertion          what `put` does
-- Removal            what `without` does
-- Undoing            putting in and taking out one number
-- Difference         what `only` gives
-- Union              what `put_all` gives
-- Distance           how many numbers differ
-- Laws               the last six together
use Rattle.std.specs.Prelude.{◌≡◌, ℕ, ◌+◌, ◌-◌, ◌<◌, ◌≤◌, true, false, not, ◌&&◌, List, length, ◌==◌}
use Rattle.sorted.specs.Lists.{pick, or, has, rising, all_below, put, without, only, differ, put_all, without_all, brought}

abbrev pub DifferencesDo : Type 0
DifferencesDo =
    (xs ys : List ℕ) → rising xs ≡ true → rising ys ≡ true →
    (brought ys (only ys xs) (only xs ys) ≡ xs) × (length xs + length (only ys xs) ≡ length ys + length (only xs ys)) × (differ xs ys ≡ differ ys xs)

abbrev pub Triangle : Type 0
Triangle = (xs ys zs : List ℕ) → rising xs ≡ true → rising ys ≡ true → rising zs ≡ true → differ xs zs ≤ differ xs ys + differ ys zs

abbrev pub SameMembers : Type 0
SameMembers = (xs ys : List ℕ) → rising xs ≡ true → rising ys ≡ true → ((n : ℕ) → has xs n ≡ has ys n) → xs ≡ ys

pub record Insertion : Type 0 where
  pub members : (n : ℕ) (xs : List ℕ) (k : ℕ) → has (put n xs) k ≡ or (n == k) (has xs k)
  pub rises : (n : ℕ) (xs : List ℕ) → rising xs ≡ true → rising (put n xs) ≡ true
  pub below : (b n : ℕ) (xs : List ℕ) → n < b → all_below b xs ≡ true → all_below b (put n xs) ≡ true
  pub size : (n : ℕ) (xs : List ℕ) → rising xs ≡ true → length (put n xs) ≡ pick (has xs n) (length xs) (length xs + 1)
  pub there : (n : ℕ) (xs : List ℕ) → rising xs ≡ true → has xs n ≡ true → put n xs ≡ xs
  pub order : (m n : ℕ) (xs : List ℕ) → rising xs ≡ true → put m (put n xs) ≡ put n (put m xs)

pub record Removal : Type 0 where
  pub members : (n : ℕ) (xs : List ℕ) (k : ℕ) → rising xs ≡ true → has (without n xs) k ≡ (not (n == k) && has xs k)
  pub rises : (n : ℕ) (xs : List ℕ) → rising xs ≡ true → rising (without n xs) ≡ true
  pub below : (b n : ℕ) (xs : List ℕ) → all_below b xs ≡ true → all_below b (without n xs) ≡ true
  pub size : (n : ℕ) (xs : List ℕ) → length (without n xs) ≡ pick (has xs n) (length xs - 1) (length xs)
  pub absent : (n : ℕ) (xs : List ℕ) → has xs n ≡ false → without n xs ≡ xs
  pub order : (m n : ℕ) (xs : List ℕ) → rising xs ≡ true → without m (without n xs) ≡ without n (without m xs)

pub record Undoing : Type 0 where
  pub out_after_in : (n : ℕ) (xs : List ℕ) → rising xs ≡ true → without n (put n xs) ≡ without n xs
  pub in_after_out : (n : ℕ) (xs : List ℕ) → rising xs ≡ true → put n (without n xs) ≡ put n xs
  pub out_again : (n : ℕ) (xs : List ℕ) → rising xs ≡ true → has xs n ≡ false → without n (put n xs) ≡ xs
  pub in_again : (n : ℕ) (xs : List ℕ) → rising xs ≡ true → has xs n ≡ true → put n (without n xs) ≡ xs

pub record Difference : Type 0 where
  pub members : (xs ys : List ℕ) (n : ℕ) → has (only xs ys) n ≡ (has xs n && not (has ys n))
  pub rises : (xs ys : List ℕ) → rising xs ≡ true → rising (only xs ys) ≡ true
  pub below : (b : ℕ) (xs ys : List ℕ) → all_below b xs ≡ true → all_below b (only xs ys) ≡ true
  pub removal : (xs ys : List ℕ) → rising xs ≡ true → without_all ys xs ≡ only xs ys

pub record Union : Type 0 where
  pub members : (xs ys : List ℕ) (n : ℕ) → has (put_all xs ys) n ≡ or (has xs n) (has ys n)
  pub rises : (xs ys : List ℕ) → rising ys ≡ true → rising (put_all xs ys) ≡ true
  pub below : (b : ℕ) (xs ys : List ℕ) → all_below b xs ≡ true → all_below b ys ≡ true → all_below b (put_all xs ys) ≡ true
  pub commutative : (xs ys : List ℕ) → rising xs ≡ true → rising ys ≡ true → put_all xs ys ≡ put_all ys xs
  pub associative : (xs ys zs : List ℕ) → rising zs ≡ true → put_all xs (put_all ys zs) ≡ put_all (put_all xs ys) zs
  pub idempotent : (xs : List ℕ) → rising xs ≡ true → put_all xs xs ≡ xs
  pub size : (xs ys : List ℕ) → rising xs ≡ true → rising ys ≡ true → length (put_all xs ys) ≡ length ys + length (only xs ys)

pub record Distance : Type 0 where
  pub symmetric : (xs ys : List ℕ) → differ xs ys ≡ differ ys xs
  pub zero_apart : (xs ys : List ℕ) → rising xs ≡ true → rising ys ≡ true → differ xs ys ≡ 0 → xs ≡ ys
  pub zero_to_itself : (xs : List ℕ) → differ xs xs ≡ 0
  pub triangle : Triangle

pub record Laws : Type 0 where
  pub insertion : Insertion
  pub removal : Removal
  pub undoing : Undoing
  pub difference : Difference
  pub union : Union
  pub distance : Distance
