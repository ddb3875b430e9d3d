-- Three readings, by computation, and the last by uniqueness: the only explanation has three numbers.
use Rattle.std.proofs.Common.{ℕ, ◌+◌, ◌≤◌, List, [], ◌∷◌, length, refl, ap, arith, lit<}
use Rattle.field.specs.Polynomial.{value}
use Rattle.field.proofs.Primality.{prime_65537}
use Rattle.sorted.specs.Lists.{has, rising, all_below}
use Rattle.letter.specs.Letter.{points, values, letter, Letter}
use Rattle.explain.specs.Explanation.{Explains, TooMany, fits_at, all_in, none_in}
use Rattle.explain.proofs.Reading.{one_explanation}
use Rattle.decode.specs.Test.{explained, found}
use Rattle.decode.specs.Worked.{Readings}
use Rattle.decode.proofs.Decide.{found_from_test, explains_from_test}

here : List ℕ
here = 5 ∷ 9 ∷ 20 ∷ []

later : Letter
later = letter 65537 3 (3 ∷ 9 ∷ 20 ∷ 31 ∷ [])

later_explained : Explains 65537 3 later here (5 ∷ []) (3 ∷ 31 ∷ [])
unfolding later here explained rising all_below all_in none_in has fits_at points letter values value
later_explained = explains_from_test 65537 3 later here (5 ∷ []) (3 ∷ 31 ∷ []) refl

too_few : (g c : List ℕ) → Explains 65537 3 later here g c → length g + length c ≤ 2 → ⊥
unfolding here rising all_below
too_few g c one few =
    let same =
    one_explanation 65537 3 later here g c (5 ∷ []) (3 ∷ 31 ∷ []) prime_65537 (lit< tt) refl refl one later_explained (omega arith) in
    omega (arith, ap length same.0, ap length same.1)

pub readings : Readings
unfolding later here found explained rising all_below all_in none_in has fits_at points letter values value TooMany
readings = (
  found_from_test 65537 3 3 (letter 65537 3 (3 ∷ 5 ∷ 20 ∷ [])) (5 ∷ 9 ∷ 20 ∷ []) (9 ∷ []) (3 ∷ []) refl,
  found_from_test 65537 3 3 (letter 65537 3 (3 ∷ 9 ∷ 20 ∷ 31 ∷ [])) (5 ∷ 9 ∷ 20 ∷ []) (5 ∷ []) (3 ∷ 31 ∷ []) refl,
  too_few,
)
