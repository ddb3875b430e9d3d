-- The first place at which numbers fail to be a list by rising number below a bound.
-- Fine b xs i          the number at place i is below b, and above the one before it
-- FineTo b xs n        the places before n are fine
-- FirstFault b xs i    i is the first place that is not fine
-- Faultless b xs       every place is fine: xs rises, and is below b
use Rattle.std.specs.Prelude.{◌≡◌, ℕ, ◌-◌, ◌<◌, true, false, ◌&&◌, List, length, slice_index}
use Rattle.sorted.specs.Lists.{rising, all_below}

abbrev pub Fine : ℕ → List ℕ → ℕ → Type 0
Fine b xs i = (slice_index xs i < b) × (0 < i → slice_index xs (i - 1) < slice_index xs i)

unfoldable pub FineTo : ℕ → List ℕ → ℕ → Type 0
FineTo b xs n = (k : ℕ) → k < n → Fine b xs k

pub record FirstFault (b : ℕ) (xs : List ℕ) (i : ℕ) : Type 0 where
  pub inside : i < length xs
  pub before : FineTo b xs i
  pub here : Fine b xs i → ⊥
  pub unsound : (rising xs && all_below b xs) ≡ false

pub record Faultless (b : ℕ) (xs : List ℕ) : Type 0 where
  pub rises : rising xs ≡ true
  pub below : all_below b xs ≡ true
  pub each : FineTo b xs (length xs)
