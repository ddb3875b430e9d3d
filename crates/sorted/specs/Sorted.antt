-- What a `SortedList` holds, and why none is made of some numbers.
-- items_of l             the numbers of l, by rising number
-- MadeOf b xs l          l holds xs, which rises and is below b
-- NotMade b xs e         e says why no list below b is made of xs: its first fault, or want of memory where it has none
use Rattle.std.specs.Prelude.{◌≡◌, ℕ, List, vec_items}
use Rattle.sorted.specs.declared.SortedList.{SortedList}
use Rattle.sorted.specs.declared.FromSliceError.{FromSliceError}
use Rattle.sorted.specs.declared.FromSliceError.TheVariants.{Fault, Memory}
use Rattle.sorted.specs.Faults.{FirstFault, Faultless}

abbrev pub items_of : SortedList → List ℕ
items_of l = vec_items l.items

pub record MadeOf (b : ℕ) (xs : List ℕ) (l : SortedList) : Type 0 where
  pub items : items_of l ≡ xs
  pub fine : Faultless b xs

abbrev pub NotMade : ℕ → List ℕ → FromSliceError → Type 0
NotMade b xs (Fault i) = FirstFault b xs i
NotMade b xs Memory = Faultless b xs
