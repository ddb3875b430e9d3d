-- How deeds are written in an input. Assumes nothing: these are definitions.
--
--   Says bs d       the three bytes bs say the deed d: 0 for comes or 1 for goes, and the number, its low byte first
--   Malformed bs    the bytes bs say no deed
use Rattle.std.specs.Prelude.{◌≡◌, ℕ, ◌+◌, ◌*◌, ◌<◌, ◌⊎◌, List, length, slice_index, ◌≢◌}
use Rattle.letter.specs.declared.desks.Deed.{Deed}
use Rattle.letter.specs.declared.desks.Deed.TheVariants.{Comes, Goes}

abbrev pub kind : Deed → ℕ
kind (Comes n) = 0
kind (Goes n) = 1

abbrev pub number : Deed → ℕ
number (Comes n) = n
number (Goes n) = n

pub record Says (bs : List ℕ) (d : Deed) : Type 0 where
  pub whole : length bs ≡ 3
  pub first : slice_index bs 0 ≡ kind d
  pub rest : slice_index bs 1 + 256 * slice_index bs 2 ≡ number d

abbrev pub Malformed : List ℕ → Type 0
Malformed bs = (length bs ≢ 3) ⊎ (1 < slice_index bs 0)
