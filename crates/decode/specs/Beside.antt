-- What a letter of m values, read with the allowance d beside a desk that keeps k values of its list, is found to say.
-- Assumes nothing: these are definitions.
--
--   ToldBy p m d l list gone come     gone and come, at most d numbers together, explain the letter, and nothing else does
--   Differs p m d l list f            the same of a difference f, or that there is no explanation of at most d numbers
--   Read p m d l list k f             the desk keeps enough values and d is at most m, and then the above
--   Unread m d k e                    why the letter is not read: it has more values than are kept, or d is above m
use Rattle.std.specs.Prelude.{◌≡◌, ℕ, ◌<◌, ◌≤◌, ◌⊎◌, List, Some, None, Option}
use Rattle.letter.specs.Desks.{Told}
use Rattle.letter.specs.Letter.{Letter}
use Rattle.letter.specs.declared.refusals.Refusal.{Refusal}
use Rattle.explain.specs.Explanation.{Found, TooMany}
use Rattle.decode.specs.Numbers.{listed}
use Rattle.decode.specs.declared.numbers.Difference.{Difference}

pub record ToldBy (p m d : ℕ) (l : Letter) (list gone come : List ℕ) : Type 0 where
  pub found : Found p m d l list gone come
  pub alone : (g c : List ℕ) → Found p m d l list g c → (g ≡ gone) × (c ≡ come)

abbrev pub Differs : (p m d : ℕ) (l : Letter) (list : List ℕ) → Option Difference → Type 0
Differs p m d l list None = TooMany p m d l list
Differs p m d l list (Some f) = ToldBy p m d l list (listed f.gone) (listed f.come)

pub record Read (p m d : ℕ) (l : Letter) (list : List ℕ) (k : ℕ) (o : Option Difference) : Type 0 where
  pub kept : m ≤ k
  pub allowed : d ≤ m
  pub says : Differs p m d l list o

unfoldable pub Unread : (m d k : ℕ) → Refusal → Type 0
Unread m d k e = (Told 1 0 e × (k < m)) ⊎ (Told 3 d e × ((m ≤ k) × (m < d)))
