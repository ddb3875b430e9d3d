-- A deed that can be done, before anything is written. Assumes nothing: these are definitions.
--
--   Held note list l       l is the letter in note, and the list counts what it counts
--   Coming note list n s   n can come: the place where it would stand, and the letter afterwards
--   Going note list n s    n can go: the place where it stands, and the letter afterwards
use Rattle.std.specs.Prelude.{◌≡◌, ℕ, ◌+◌, ◌-◌, ◌<◌, ◌≤◌, List, length, slice_index, slice_index_or}
use Rattle.sorted.specs.Edits.{Hit, Miss}
use Rattle.letter.specs.Letter.{points, times_each, undo_each}
use Rattle.letter.specs.Refusals.{capacity}
use Rattle.letter.specs.Rows.{numbers}
use Rattle.letter.specs.Slices.{letter_in, list_in}
use Rattle.letter.specs.declared.letters.Letter.{Letter}
use Rattle.capi.specs.Deeds.{Lent}
use Rattle.capi.specs.declared.deeds.Step.{Step}

pub record Held (note list : List ℕ) (l : Letter 65537) : Type 0 where
  pub lent : Lent note list
  pub many : l.count ≡ slice_index note 1
  pub size : l.values.len ≡ slice_index note 0
  pub values : numbers l.values ≡ (letter_in note).at

pub record Coming (note list : List ℕ) (n : ℕ) (s : Step) : Type 0 where
  pub lent : Lent note list
  pub small : n < 65537 - slice_index note 0
  pub space : slice_index_or note 1 0 < capacity
  pub room : 2 + slice_index note 1 ≤ length list
  pub count : s.count ≡ slice_index note 1
  pub miss : Miss n (list_in list) s.place
  pub many : s.next.count ≡ slice_index note 1 + 1
  pub size : s.next.values.len ≡ slice_index note 0
  pub values : numbers s.next.values ≡ times_each 65537 (points 65537 (slice_index note 0)) n (letter_in note).at

pub record Going (note list : List ℕ) (n : ℕ) (s : Step) : Type 0 where
  pub lent : Lent note list
  pub small : n < 65537 - slice_index note 0
  pub count : s.count ≡ slice_index note 1
  pub hit : Hit n (list_in list) s.place
  pub many : s.next.count ≡ slice_index note 1 - 1
  pub size : s.next.values.len ≡ slice_index note 0
  pub values : numbers s.next.values ≡ undo_each 65537 (points 65537 (slice_index note 0)) n (letter_in note).at
