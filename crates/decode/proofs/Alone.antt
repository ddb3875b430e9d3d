-- Of at most m numbers that explain a letter of m values there is only one choice.
use Rattle.std.proofs.Common.{◌≡◌, ℕ, ◌-◌, ◌<◌, ◌≤◌, true, List, arith}
use mathlib.Core.List.{is_set}
use mathlib.Core.Logic.{∥∥₁_elim}
use native.Mathlib.Nat.{ℕ_set}
use Rattle.field.specs.Prime.{Prime}
use Rattle.sorted.specs.Lists.{rising, all_below}
use Rattle.letter.specs.Letter.{Letter}
use Rattle.explain.specs.Explanation.{Explains, Found, these}
use Rattle.explain.proofs.Reading.{one_explanation}
use Rattle.decode.proofs.Answer.{found_few}

found_explains : (p m d : ℕ) (l : Letter) (list gone come : List ℕ) → Found p m d l list gone come → Explains p m l list gone come
found_explains p m d l list gone come (these one few) = one

-- beside a rising list below p - m there is only one
pub alone_found : (p m d : ℕ) (l : Letter) (list gone come : List ℕ)
    → ∥ Prime p ∥₁
    → m < p
    → d ≤ m
    → all_below (p - m) list ≡ true
    → rising list ≡ true
    → Found p m d l list gone come
    → (g c : List ℕ)
    → Found p m d l list g c
    → (g ≡ gone) × (c ≡ come)
alone_found p m d l list gone come prime fewer allowed below rises told g c other =
    let both = λ (pr : Prime p).
    one_explanation p m l list g c gone come pr fewer below rises
    (found_explains p m d l list g c other) (found_explains p m d l list gone come told)
    (omega (arith, found_few p m d l list g c other, found_few p m d l list gone come told)) in (
      ∥∥₁_elim prime (is_set ℕ_set g gone) (λ (pr : Prime p). (both pr).0),
      ∥∥₁_elim prime (is_set ℕ_set c come) (λ (pr : Prime p). (both pr).1),
    )
