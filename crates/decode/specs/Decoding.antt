-- What the reader knows of a candidate before the check.
--
--   Fitting many count d s the sizes s are the largest that fit the counts
--   Only ..                gone and come are rising and below p - m, and nothing else explains the letter
use Rattle.std.specs.Prelude.{◌≡◌, ℕ, ◌-◌, ◌≤◌, List}
use Rattle.letter.specs.Letter.{Letter}
use Rattle.explain.specs.Explanation.{Found}
use Rattle.decode.specs.Sizes.{far, gone_size, come_size}
use Rattle.decode.specs.Steps.{Passed}
use Rattle.decode.specs.declared.degrees.Sizes.{Sizes}

pub record Fitting (many count d : ℕ) (s : Sizes) : Type 0 where
  pub near : far many count ≤ d
  pub gone : s.gone ≡ gone_size many count d
  pub come : s.come ≡ come_size many count d

pub record Only (p m d : ℕ) (l : Letter) (here gone come : List ℕ) : Type 0 where
  pub only : (g c : List ℕ) → Found p m d l here g c → (g ≡ gone) × (c ≡ come)
  pub gone_passed : Passed (p - m) gone
  pub come_passed : Passed (p - m) come
