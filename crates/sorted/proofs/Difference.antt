-- What of one list is not in another.
use Rattle.std.proofs.Common.{◌≡◌, ℕ, true, not, ◌&&◌, List, [], ◌∷◌, refl, ap, arith}
use Rattle.std.proofs.lemmas.Bool.Decides.{nat_tests}
use Rattle.sorted.specs.Lists.{has, rising, all_below, only}
use Rattle.sorted.proofs.Members.{has_first, has_later, rising_tail, rising_over, rising_cons, has_below, below_from_has}

pub only_has : (xs ys : List ℕ) (n : ℕ) → has (only xs ys) n ≡ (has xs n && not (has ys n))
unfolding has only
only_has [] ys n = refl
only_has (x ∷ xs) ys n =
    let h = only_has xs ys n in
    let same : x ≡ n → has ys x ≡ has ys n = λ e. ap (has ys) e in
    grind (arith, nat_tests)

-- what is kept was there
pub only_from : (xs ys : List ℕ) (n : ℕ) → has (only xs ys) n ≡ true → has xs n ≡ true
only_from xs ys n h = let p = only_has xs ys n in grind (arith, nat_tests)

pub only_rising : (xs ys : List ℕ) → rising xs ≡ true → rising (only xs ys) ≡ true
unfolding only
only_rising [] ys r = r
only_rising (x ∷ xs) ys r =
    let t = only_rising xs ys (rising_tail x xs r) in
    let c = rising_cons x (only xs ys) (λ k h. rising_over x xs r k (only_from xs ys k h)) t in
    grind (arith, nat_tests)

pub only_below : (b : ℕ) (xs ys : List ℕ) → all_below b xs ≡ true → all_below b (only xs ys) ≡ true
only_below b xs ys h = below_from_has b (only xs ys) (λ k e. has_below b k xs (only_from xs ys k e) h)

pub only_nil : (xs : List ℕ) → only xs [] ≡ xs
unfolding only has
only_nil [] = refl
only_nil (x ∷ xs) = ap (λ zs. x ∷ zs) (only_nil xs)

-- only the members of xs matter
pub only_cong : (xs ys zs : List ℕ) → ((n : ℕ) → has xs n ≡ true → has ys n ≡ has zs n) → only xs ys ≡ only xs zs
unfolding only
only_cong [] ys zs f = refl
only_cong (x ∷ xs) ys zs f =
    let h = f x (has_first x xs) in
    let t = only_cong xs ys zs (λ n p. f n (has_later x n xs p)) in
    grind (arith, nat_tests)

pub only_all : (xs ys : List ℕ) → ((n : ℕ) → has xs n ≡ true → has ys n ≡ true) → only xs ys ≡ []
unfolding only
only_all [] ys f = refl
only_all (x ∷ xs) ys f =
    let h = f x (has_first x xs) in
    let t = only_all xs ys (λ n p. f n (has_later x n xs p)) in
    grind (arith, nat_tests)
