-- What the reader concludes at the m largest numbers below p: nothing explains the letter, or the candidate does.
use Rattle.std.proofs.Common.{◌≡◌, ℕ, Bool, true, false, List, Option, sym, subst, arith}
use Rattle.std.specs.Bool.{then_some}
use Rattle.std.proofs.lemmas.Bool.Decides.{nat_tests}
use Rattle.letter.specs.Letter.{Letter}
use Rattle.explain.specs.Explanation.{Explains, Found, these, TooMany}
use Rattle.decode.specs.Beside.{Differs, ToldBy}
use Rattle.decode.specs.Decoding.{Only}
use Rattle.decode.specs.Numbers.{listed}
use Rattle.decode.specs.Test.{explained, found}
use Rattle.decode.specs.declared.numbers.Difference.{Difference}

pub explains_from_test : (p m : ℕ) (l : Letter) (here gone come : List ℕ)
    → explained p m l here gone come ≡ true
    → Explains p m l here gone come
unfolding explained
explains_from_test p m l here gone come h =
    record {
      gone_rising = grind (arith, nat_tests);
      come_rising = grind (arith, nat_tests);
      small = grind (arith, nat_tests);
      gone_here = grind (arith, nat_tests);
      come_not = grind (arith, nat_tests);
      count = grind (arith, nat_tests);
      fits = grind (arith, nat_tests);
    }

pub test_from_explains : (p m : ℕ) (l : Letter) (here gone come : List ℕ)
    → Explains p m l here gone come
    → explained p m l here gone come ≡ true
unfolding explained
test_from_explains p m l here gone come one =
    let a = one.gone_rising in
    let b = one.come_rising in
    let c = one.small in
    let d = one.gone_here in
    let e = one.come_not in
    let f = one.count in
    let g = one.fits in
    grind (arith, nat_tests)

pub test_refuses : (p m : ℕ) (l : Letter) (here gone come : List ℕ)
    → explained p m l here gone come ≡ false
    → Explains p m l here gone come
    → ⊥
test_refuses p m l here gone come h one =
    let t = test_from_explains p m l here gone come one in
    let e : ◌≡◌ {A = ℕ} 0 1 = cc in
    omega arith

pub found_from_test : (p m d : ℕ) (l : Letter) (here gone come : List ℕ)
    → found p m d l here gone come ≡ true
    → Found p m d l here gone come
unfolding found
found_from_test p m d l here gone come h =
    these (explains_from_test p m l here gone come (grind (arith, nat_tests))) (grind (arith, nat_tests))

pub test_from_found : (p m d : ℕ) (l : Letter) (here gone come : List ℕ)
    → Found p m d l here gone come
    → found p m d l here gone come ≡ true
unfolding found
test_from_found p m d l here gone come (these one few) =
    let h = test_from_explains p m l here gone come one in
    grind (arith, nat_tests)

-- where nothing but the candidate can explain the letter, and the candidate does not, nothing does
pub candidate_too_many : (p m d : ℕ) (l : Letter) (here gone come : List ℕ)
    → ((g c : List ℕ) → Found p m d l here g c → (g ≡ gone) × (c ≡ come))
    → (Found p m d l here gone come → ⊥)
    → TooMany p m d l here
unfolding TooMany
candidate_too_many p m d l here gone come only none g c one few =
    let same = only g c (these one few) in
    none
    (subst (λ (t : List ℕ). Found p m d l here gone t) same.1
    (subst (λ (t : List ℕ). Found p m d l here t c) same.0 (these one few)))

pub found_refuses : (p m d : ℕ) (l : Letter) (here gone come : List ℕ)
    → found p m d l here gone come ≡ false
    → Found p m d l here gone come
    → ⊥
found_refuses p m d l here gone come h one =
    let t = test_from_found p m d l here gone come one in
    let e : ◌≡◌ {A = ℕ} 0 1 = cc in
    omega arith

-- the candidate that passes the test is told, and nothing else explains the letter
pub candidate_told : (p m d : ℕ) (l : Letter) (here gone come : List ℕ)
    → ((g c : List ℕ) → Found p m d l here g c → (g ≡ gone) × (c ≡ come))
    → found p m d l here gone come ≡ true
    → ToldBy p m d l here gone come
candidate_told p m d l here gone come only test =
    record { found = found_from_test p m d l here gone come test; alone = only }

-- what the candidate is told to be, by its test
pub decided : (p m d : ℕ) (l : Letter) (here : List ℕ) (one : Difference) (b : Bool) (result : Option Difference)
    → Only p m d l here (listed one.gone) (listed one.come)
    → b ≡ found p m d l here (listed one.gone) (listed one.come)
    → result ≡ then_some b one
    → Differs p m d l here result
decided p m d l here one true result only test is =
    subst (λ (r : Option Difference). Differs p m d l here r) (sym is) (candidate_told p m d l here _ _ only.only (sym test))
decided p m d l here one false result only test is =
    subst (λ (r : Option Difference). Differs p m d l here r) (sym is)
    (candidate_too_many p m d l here _ _ only.only (found_refuses p m d l here _ _ (sym test)))
