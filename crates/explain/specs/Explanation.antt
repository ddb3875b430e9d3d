-- What explains a letter beside a list: numbers gone from the list here, and numbers come to the list there.
-- Assumes nothing: these are definitions.
--
--   fits_at p zs vs here gone come   at each point z, the letter's value times that of the numbers gone is the value of
--                                    the list here times that of the numbers come, modulo p
--   all_in ns ms                     each number of ns is in ms
--   none_in ns ms                    no number of ns is in ms
--   Explains p m l here gone come    gone and come explain the letter l, of m values, beside the list here
--   Found p m d l here gone come     they explain it, and are at most d numbers together
--   TooMany p m d l here             nothing of at most d numbers explains it
use Rattle.std.specs.Prelude.{◌≡◌, ℕ, ◌+◌, ◌-◌, ◌*◌, ◌%◌, ◌≤◌, Bool, true, false, not, ◌&&◌, List, [], ◌∷◌, length, ◌==◌}
use Rattle.field.specs.Polynomial.{value}
use Rattle.sorted.specs.Lists.{has, rising, all_below}
use Rattle.letter.specs.Letter.{points, Letter}

unfoldable pub fits_at : ℕ → List ℕ → List ℕ → List ℕ → List ℕ → List ℕ → Bool
fits_at p [] vs here gone come = true
fits_at p (z ∷ zs) [] here gone come = false
fits_at p (z ∷ zs) (v ∷ vs) here gone come =
    ((v * value p z gone) % p == (value p z here * value p z come) % p) && fits_at p zs vs here gone come

unfoldable pub all_in : List ℕ → List ℕ → Bool
all_in [] ms = true
all_in (n ∷ ns) ms = has ms n && all_in ns ms

unfoldable pub none_in : List ℕ → List ℕ → Bool
none_in [] ms = true
none_in (n ∷ ns) ms = not (has ms n) && none_in ns ms

pub record Explains (p m : ℕ) (l : Letter) (here gone come : List ℕ) : Type 0 where
  pub gone_rising : rising gone ≡ true
  pub come_rising : rising come ≡ true
  pub small : all_below (p - m) come ≡ true
  pub gone_here : all_in gone here ≡ true
  pub come_not : none_in come here ≡ true
  pub count : l.many + length gone ≡ length here + length come
  pub fits : fits_at p (points p m) l.at here gone come ≡ true

pub data Found (p m d : ℕ) (l : Letter) (here : List ℕ) : List ℕ → List ℕ → Type 0 where
  these : {gone come : List ℕ} → Explains p m l here gone come → length gone + length come ≤ d → Found p m d l here gone come

unfoldable pub TooMany : ℕ → ℕ → ℕ → Letter → List ℕ → Type 0
TooMany p m d l here = (gone come : List ℕ) → Explains p m l here gone come → length gone + length come ≤ d → ⊥
