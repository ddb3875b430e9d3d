-- The tests `all_in` and `none_in`, from membership and back.
use Rattle.std.proofs.Common.{◌≡◌, ℕ, true, false, List, [], ◌∷◌, refl, ap, arith}
use Rattle.std.proofs.lemmas.Bool.Decides.{nat_tests}
use Rattle.field.specs.Polynomial.{Among, Below}
use Rattle.sorted.specs.Lists.{has}
use Rattle.sorted.proofs.Members.{has_first, has_later, has_below, below_from_has}
use Rattle.letter.proofs.Bridges.{has_from_among, below_from_all}
use Rattle.explain.specs.Explanation.{all_in, none_in}
use Rattle.explain.specs.AnyPoints.{Off}

pub all_in_has : (ns ms : List ℕ) (n : ℕ) → all_in ns ms ≡ true → has ns n ≡ true → has ms n ≡ true
unfolding all_in has
all_in_has [] ms n a h = grind (arith, nat_tests)
all_in_has (k ∷ ns) ms n a h =
    let r = all_in_has ns ms n in
    let same : k ≡ n → has ms k ≡ has ms n = λ e. ap (has ms) e in
    grind (arith, nat_tests)

pub none_in_has : (ns ms : List ℕ) (n : ℕ) → none_in ns ms ≡ true → has ns n ≡ true → has ms n ≡ false
unfolding none_in has
none_in_has [] ms n a h = grind (arith, nat_tests)
none_in_has (k ∷ ns) ms n a h =
    let r = none_in_has ns ms n in
    let same : k ≡ n → has ms k ≡ has ms n = λ e. ap (has ms) e in
    grind (arith, nat_tests)

pub all_in_by : (ns ms : List ℕ) → ((n : ℕ) → has ns n ≡ true → has ms n ≡ true) → all_in ns ms ≡ true
unfolding all_in
all_in_by [] ms f = refl
all_in_by (k ∷ ns) ms f =
    let r = all_in_by ns ms (λ n h. f n (has_later k n ns h)) in
    let s = f k (has_first k ns) in
    grind (arith, nat_tests)

pub none_in_by : (ns ms : List ℕ) → ((n : ℕ) → has ns n ≡ true → has ms n ≡ false) → none_in ns ms ≡ true
unfolding none_in
none_in_by [] ms f = refl
none_in_by (k ∷ ns) ms f =
    let r = none_in_by ns ms (λ n h. f n (has_later k n ns h)) in
    let s = f k (has_first k ns) in
    grind (arith, nat_tests)

-- no point is a number of a list that is off the points
pub point_not_in : (p : ℕ) (zs ns : List ℕ) (z : ℕ) → Off p zs ns → Among z zs → Among z ns → ⊥
point_not_in p zs ns z off m m' =
    let a = none_in_has ns zs z off.off_points (has_from_among z ns m') in
    let b = has_from_among z zs m in
    let e : ◌≡◌ {A = ℕ} 0 1 = cc in
    omega arith

pub off_below : (p : ℕ) (zs ns : List ℕ) → Off p zs ns → Below p ns
off_below p zs ns off = below_from_all p ns off.small

-- what is part of a list off the points is off the points
pub off_part : (p : ℕ) (zs ns ms : List ℕ) → Off p zs ms → all_in ns ms ≡ true → Off p zs ns
off_part p zs ns ms off part =
    record {
      small = below_from_has p ns (λ n h. has_below p n ms (all_in_has ns ms n part h) off.small);
      off_points = none_in_by ns zs (λ n h. none_in_has ms zs n off.off_points (all_in_has ns ms n part h));
    }
