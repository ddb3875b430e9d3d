-- Letters and lists in slices of words. A letter is m, the count, and the m values; a list is its count and the
-- numbers. Words after the last one that a letter or a list speaks of are not looked at.
-- Assumes nothing: these are definitions.
--
--   letter_in xs          the letter at the beginning of xs
--   list_in xs            the list at the beginning of xs
--   ValueFine p xs k      there is a value at place k, and it is below p
--   ValueFault p xs m i   i is the first of m places whose value is not fine
--   LetterFine p xs k     what stands at place k of a letter is there and small enough
--   LetterFault p xs i    i is the first place of a letter that is not fine
--   LetterSound p xs      every place of a letter is fine
--   ListFine b xs k       what stands at place k of a list is there, below b, and above the number before it
--   ListFault b xs i      i is the first place of a list that is not fine
--   ListSound b xs        every place of a list is fine
--   LetterRead, LetterRefused, ListRefused    what reading a letter or a list answers
--   LetterWritten, ListWritten, TooShort      what writing one answers and leaves behind
use Rattle.std.specs.Prelude.{◌≡◌, ℕ, zero, suc, ◌+◌, ◌<◌, ◌≤◌, true, List, ◌∷◌, ◌++◌, length, take, drop, slice_index, slice_index_or}
use Rattle.sorted.specs.Lists.{rising, all_below}
use Rattle.letter.specs.Letter.{Letter as Said}
use Rattle.letter.specs.Letters.{letter_of}
use Rattle.letter.specs.Refusals.{number, place}
use Rattle.letter.specs.declared.letters.Letter.{Letter}
use Rattle.letter.specs.declared.refusals.Refusal.{Refusal}

abbrev pub letter_in : List ℕ → Said
letter_in xs = record { many = slice_index xs 1; at = take (slice_index xs 0) (drop 2 xs) }

abbrev pub list_in : List ℕ → List ℕ
list_in xs = take (slice_index xs 0) (drop 1 xs)

-- values, in words that hold nothing else
abbrev pub ValueFine : ℕ → List ℕ → ℕ → Type 0
ValueFine p xs k = (k < length xs) × (slice_index xs k < p)

unfoldable pub ValuesTo : ℕ → List ℕ → ℕ → Type 0
ValuesTo p xs n = (k : ℕ) → k < n → ValueFine p xs k

pub record ValueFault (p : ℕ) (xs : List ℕ) (m i : ℕ) : Type 0 where
  pub inside : i < m
  pub before : ValuesTo p xs i
  pub here : ValueFine p xs i → ⊥

-- letters: place 0 says how many values there are, at most 64 and below p, and place 1 how many numbers the list has
abbrev pub LetterFine : ℕ → List ℕ → ℕ → Type 0
LetterFine p xs zero = (0 < length xs) × (slice_index xs 0 ≤ 64) × (slice_index xs 0 < p)
LetterFine p xs (suc zero) = (1 < length xs) × (slice_index xs 1 ≤ p)
LetterFine p xs (suc (suc k)) = (suc (suc k) < length xs) × (slice_index xs (suc (suc k)) < p)

unfoldable pub LetterFineTo : ℕ → List ℕ → ℕ → Type 0
LetterFineTo p xs n = (k : ℕ) → k < n → LetterFine p xs k

pub record LetterFault (p : ℕ) (xs : List ℕ) (i : ℕ) : Type 0 where
  pub inside : i < 2 + slice_index xs 0
  pub before : LetterFineTo p xs i
  pub here : LetterFine p xs i → ⊥

pub record LetterSound (p : ℕ) (xs : List ℕ) : Type 0 where
  pub each : LetterFineTo p xs (2 + slice_index xs 0)
  pub few : slice_index_or xs 0 0 ≤ 64
  pub fewer : slice_index_or xs 0 0 < p
  pub there : 2 + slice_index xs 0 ≤ length xs
  pub count : slice_index_or xs 1 0 ≤ p
  pub values : all_below p (take (slice_index xs 0) (drop 2 xs)) ≡ true

-- lists: place 0 says how many numbers there are
abbrev pub ListFine : ℕ → List ℕ → ℕ → Type 0
ListFine b xs zero = 0 < length xs
ListFine b xs (suc zero) = (1 < length xs) × (slice_index xs 1 < b)
ListFine b xs (suc (suc k)) =
    (suc (suc k) < length xs) × (slice_index xs (suc (suc k)) < b) × (slice_index xs (suc k) < slice_index xs (suc (suc k)))

unfoldable pub ListFineTo : ℕ → List ℕ → ℕ → Type 0
ListFineTo b xs n = (k : ℕ) → k < n → ListFine b xs k

pub record ListFault (b : ℕ) (xs : List ℕ) (i : ℕ) : Type 0 where
  pub inside : i < 1 + slice_index xs 0
  pub before : ListFineTo b xs i
  pub here : ListFine b xs i → ⊥

pub record ListSound (b : ℕ) (xs : List ℕ) : Type 0 where
  pub each : ListFineTo b xs (1 + slice_index xs 0)
  pub there : 1 + slice_index xs 0 ≤ length xs
  pub rises : rising (list_in xs) ≡ true
  pub below : all_below b (list_in xs) ≡ true

-- a letter is read from xs
pub record LetterRead (p : ℕ) (xs : List ℕ) (l : Letter p) : Type 0 where
  pub sound : LetterSound p xs
  pub says : letter_of l ≡ letter_in xs
  pub size : l.values.len ≡ slice_index xs 0

-- what stands in xs is no letter, or no list
pub record LetterRefused (p : ℕ) (xs : List ℕ) (e : Refusal) : Type 0 where
  pub told : number e ≡ 1
  pub fault : LetterFault p xs (place e)

pub record ListRefused (b : ℕ) (xs : List ℕ) (e : Refusal) : Type 0 where
  pub told : number e ≡ 2
  pub fault : ListFault b xs (place e)

-- n words are written at the beginning, and the others stay
pub record LetterWritten (m count : ℕ) (values before after : List ℕ) (n : ℕ) : Type 0 where
  pub size : n ≡ 2 + m
  pub leaves : after ≡ m ∷ count ∷ (values ++ drop (2 + m) before)

pub record ListWritten (list before after : List ℕ) (n : ℕ) : Type 0 where
  pub size : n ≡ 1 + length list
  pub leaves : after ≡ length list ∷ (list ++ drop (1 + length list) before)

-- there is no room for n words, and nothing is written
pub record TooShort (n : ℕ) (before after : List ℕ) (e : Refusal) : Type 0 where
  pub told : number e ≡ 4
  pub where_is : place e ≡ length before
  pub short : length before < n
  pub kept : after ≡ before
