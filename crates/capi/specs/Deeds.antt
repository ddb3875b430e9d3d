-- Deeds on a lent list and its letter, modulo 65,537. Whether a lent list rises is not looked at, since a deed does not
-- go over the list; what needs it says so. Assumes nothing: these are definitions.
--
--   Counts list c          the list says that it has c numbers, and there are so many words
--   Miscounts list c i     i is the place at which it fails to: 0 where it says nothing or another number, its length
--                          where words are missing
--   Lent note list         the letter is sound, and the list counts what the letter counts
--   UpToDate note list     the list rises, is below the points, and the letter is its letter
--   Came, Went             what a deed does: the list in place, the letter by one product at each point
--   DueComes, DueGoes      why it is not done, the first reason that applies
--   NotCame, NotWent       it is not done, and both slices are as they were
--   Comes, Goes            the answer to a deed, and what it leaves
use Rattle.std.specs.Prelude.{◌≡◌, ℕ, ◌+◌, ◌-◌, ◌<◌, ◌≤◌, true, false, ◌⊎◌, List, ◌∷◌, ◌++◌, length, drop, ◌≢◌, slice_index, slice_index_or}
use Rattle.std.specs.List.{insert, remove}
use Rattle.sorted.specs.Lists.{has, rising, all_below, put, without}
use Rattle.letter.specs.Letter.{points, letter, times_each, undo_each}
use Rattle.letter.specs.Refusals.{capacity}
use Rattle.letter.specs.Slices.{letter_in, list_in, LetterSound, LetterFault}
use Rattle.capi.specs.Answers.{Answer, done, refused, more}

pub record Counts (list : List ℕ) (c : ℕ) : Type 0 where
  pub says : slice_index_or list 0 0 ≡ c
  pub there : 1 + c ≤ length list

abbrev pub Miscounts : List ℕ → ℕ → ℕ → Type 0
Miscounts list c i =
    ((i ≡ 0) × ((length list ≡ 0) ⊎ (slice_index list 0 ≢ c)))
    ⊎ ((i ≡ length list) × (0 < length list) × (slice_index list 0 ≡ c) × (length list < 1 + c))

pub record Lent (note list : List ℕ) : Type 0 where
  pub letter : LetterSound 65537 note
  pub counts : Counts list (slice_index note 1)

abbrev pub NotLent : (note list : List ℕ) (k i : ℕ) → Type 0
NotLent note list k i =
    ((k ≡ 1) × LetterFault 65537 note i) ⊎ ((k ≡ 2) × LetterSound 65537 note × Miscounts list (slice_index note 1) i)

-- n may not come, being no number below the points or there; or it may, if the list rises
abbrev pub Barred : (note list : List ℕ) (n : ℕ) → Type 0
Barred note list n = (65537 - slice_index note 0 ≤ n) ⊎ (has (list_in list) n ≡ true)

abbrev pub Welcome : (note list : List ℕ) (n : ℕ) → Type 0
Welcome note list n = (n < 65537 - slice_index note 0) × (rising (list_in list) ≡ true → has (list_in list) n ≡ false)

pub record UpToDate (note list : List ℕ) : Type 0 where
  pub rises : rising (list_in list) ≡ true
  pub below : all_below (65537 - slice_index note 0) (list_in list) ≡ true
  pub letter_is : letter_in note ≡ letter 65537 (slice_index note 0) (list_in list)

-- n came to the place: what stood there and behind it is one place on, one word of the room behind the list is used,
-- and at each point z the value is multiplied by z - n
pub record Came (note list : List ℕ) (n : ℕ) (note₁ list₁ : List ℕ) : Type 0 where
  pub lent : Lent note list
  pub small : n < 65537 - slice_index note 0
  pub space : slice_index_or note 1 0 < capacity
  pub room : 2 + slice_index note 1 ≤ length list
  pub place : ℕ
  pub inside : place ≤ slice_index note 1
  pub list_is : list₁ ≡ (slice_index note 1 + 1) ∷ (insert (list_in list) place n ++ drop (2 + slice_index note 1) list)
  pub note_is :
      note₁
      ≡ slice_index note 0 ∷ (slice_index note 1 + 1) ∷ (times_each 65537 (points 65537 (slice_index note 0)) n (letter_in note).at ++ drop (2 + slice_index note 0) note)
  pub sorted : rising (list_in list) ≡ true → (has (list_in list) n ≡ false) × (insert (list_in list) place n ≡ put n (list_in list))
  pub kept : UpToDate note list → UpToDate note₁ list₁

-- why n does not come: 1 the letter, 2 the list, 5 the number, 7 the list is full, 4 there is no room behind it, each
-- only if those before it are in order
abbrev pub DueComes : (note list : List ℕ) (n k i : ℕ) → Type 0
DueComes note list n k i =
    NotLent note list k i
    ⊎ (((k ≡ 5) × (i ≡ n) × Lent note list × Barred note list n)
    ⊎ (((k ≡ 7) × (i ≡ capacity) × Lent note list × Welcome note list n × (capacity ≤ slice_index note 1))
    ⊎ ((k ≡ 4) × (i ≡ length list) × Lent note list × Welcome note list n × (slice_index note 1 < capacity) × (length list < 2 + slice_index note 1))))

pub record NotCame (note list : List ℕ) (n k i : ℕ) (note₁ list₁ : List ℕ) : Type 0 where
  pub note_is : note₁ ≡ note
  pub list_is : list₁ ≡ list
  pub due : DueComes note list n k i

-- n went from the place: what stood behind it is one place back, the last word of the list is left as it was, behind
-- it, and at each point z the value is multiplied by the inverse of z - n
pub record Went (note list : List ℕ) (n : ℕ) (note₁ list₁ : List ℕ) : Type 0 where
  pub lent : Lent note list
  pub small : n < 65537 - slice_index note 0
  pub there : has (list_in list) n ≡ true
  pub place : ℕ
  pub inside : place < slice_index note 1
  pub here : slice_index_or (list_in list) place 0 ≡ n
  pub list_is : list₁ ≡ (slice_index note 1 - 1) ∷ (remove (list_in list) place ++ drop (slice_index note 1) list)
  pub note_is :
      note₁
      ≡ slice_index note 0 ∷ (slice_index note 1 - 1) ∷ (undo_each 65537 (points 65537 (slice_index note 0)) n (letter_in note).at ++ drop (2 + slice_index note 0) note)
  pub sorted : rising (list_in list) ≡ true → remove (list_in list) place ≡ without n (list_in list)
  pub kept : UpToDate note list → UpToDate note₁ list₁

-- why n does not go: 1 the letter, 2 the list, 6 the number
abbrev pub DueGoes : (note list : List ℕ) (n k i : ℕ) → Type 0
DueGoes note list n k i =
    NotLent note list k i
    ⊎ ((k ≡ 6) × (i ≡ n) × Lent note list × ((65537 - slice_index note 0 ≤ n) ⊎ (rising (list_in list) ≡ true → has (list_in list) n ≡ false)))

pub record NotWent (note list : List ℕ) (n k i : ℕ) (note₁ list₁ : List ℕ) : Type 0 where
  pub note_is : note₁ ≡ note
  pub list_is : list₁ ≡ list
  pub due : DueGoes note list n k i

abbrev pub Comes : (note list : List ℕ) (n : ℕ) → Answer → (note₁ list₁ : List ℕ) → Type 0
Comes note list n (done g c) note₁ list₁ = (g ≡ 0) × (c ≡ 0) × Came note list n note₁ list₁
Comes note list n (refused k i) note₁ list₁ = NotCame note list n k i note₁ list₁
Comes note list n more note₁ list₁ = ⊥

abbrev pub Goes : (note list : List ℕ) (n : ℕ) → Answer → (note₁ list₁ : List ℕ) → Type 0
Goes note list n (done g c) note₁ list₁ = (g ≡ 0) × (c ≡ 0) × Went note list n note₁ list₁
Goes note list n (refused k i) note₁ list₁ = NotWent note list n k i note₁ list₁
Goes note list n more note₁ list₁ = ⊥
