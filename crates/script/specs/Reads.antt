-- What it is to read. Assumes nothing: these are definitions.
--
--   Reads Fine write b r   r is what b is read as: Some a if b is what is written of a, and a is fine; None if b is written of no value that is fine
--   Fits n                 a number below 2^64
--   Any x                  a value of which nothing is asked
use Rattle.std.specs.Prelude.{◌≡◌, ℕ, ◌^◌, ◌<◌, Option, MatchOption, ◌≢◌}

abbrev pub Reads : {A B : Type 0} → (A → Type 0) → (A → B) → B → Option A → Type 0
Reads {A} Fine write b r = MatchOption r ((a : A) → Fine a → b ≢ write a) (λ a. Fine a × (b ≡ write a))

abbrev pub Fits : ℕ → Type 0
Fits n = n < 2 ^ 64

abbrev pub Any : {A : Type 0} → A → Type 0
Any a = Unit {0}
