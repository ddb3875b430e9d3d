-- Membership, and what `rising` says of it.
use Rattle.std.proofs.Common.{◌≡◌, ℕ, ◌<◌, ◌≤◌, true, false, List, [], ◌∷◌, ◌++◌, length, sym, refl, ap, ◌∙◌, arith, zero, suc, drop}
use Rattle.std.proofs.lemmas.Bool.Decides.{nat_tests}
use Rattle.sorted.specs.Lists.{or, has, rising, all_below}

-- m is below each number of ns
abbrev pub Over : ℕ → List ℕ → Type 0
Over m ns = (n : ℕ) → has ns n ≡ true → m < n

pub has_first : (m : ℕ) (ms : List ℕ) → has (m ∷ ms) m ≡ true
unfolding has
has_first m ms = grind (arith, nat_tests)

pub has_later : (m n : ℕ) (ms : List ℕ) → has ms n ≡ true → has (m ∷ ms) n ≡ true
unfolding has
has_later m n ms h = grind (arith, nat_tests)

pub has_length : (n : ℕ) (xs : List ℕ) → has xs n ≡ true → 0 < length xs
unfolding has
has_length n [] h = grind (arith, nat_tests)
has_length n (x ∷ xs) h = omega arith

pub has_append : (xs ys : List ℕ) (n : ℕ) → has (xs ++ ys) n ≡ or (has xs n) (has ys n)
unfolding has
has_append [] ys n = refl
has_append (x ∷ xs) ys n = let h = has_append xs ys n in grind (arith, nat_tests)

pub rising_none : (xs : List ℕ) → xs ≡ [] → rising xs ≡ true
unfolding rising
rising_none xs e = ap rising e

pub rising_tail : (m : ℕ) (ns : List ℕ) → rising (m ∷ ns) ≡ true → rising ns ≡ true
unfolding rising
rising_tail m [] h = refl
rising_tail m (n ∷ ns) h = grind (arith, nat_tests)

pub rising_over : (m : ℕ) (ns : List ℕ) → rising (m ∷ ns) ≡ true → Over m ns
unfolding rising has
rising_over m [] h n e = grind (arith, nat_tests)
rising_over m (k ∷ ns) h n e = let r = rising_over k ns in grind (arith, nat_tests)

pub rising_cons : (m : ℕ) (ns : List ℕ) → Over m ns → rising ns ≡ true → rising (m ∷ ns) ≡ true
unfolding rising has
rising_cons m [] o r = refl
rising_cons m (n ∷ ns) o r = let h = o n (has_first n ns) in grind (arith, nat_tests)

pub has_below : (b n : ℕ) (ns : List ℕ) → has ns n ≡ true → all_below b ns ≡ true → n < b
unfolding has all_below
has_below b n [] h e = grind (arith, nat_tests)
has_below b n (m ∷ ns) h e = let r = has_below b n ns in grind (arith, nat_tests)

pub below_from_has : (b : ℕ) (ns : List ℕ) → ((n : ℕ) → has ns n ≡ true → n < b) → all_below b ns ≡ true
unfolding has all_below
below_from_has b [] f = refl
below_from_has b (m ∷ ns) f =
    let r = below_from_has b ns (λ n h. f n (has_later m n ns h)) in
    let l = f m (has_first m ns) in
    grind (arith, nat_tests)

pub below_tail : (b m : ℕ) (ns : List ℕ) → all_below b (m ∷ ns) ≡ true → all_below b ns ≡ true
unfolding all_below
below_tail b m ns h = grind (arith, nat_tests)

-- what stands first in a rising list is not in the rest
pub first_once : (m : ℕ) (ns : List ℕ) → rising (m ∷ ns) ≡ true → has ns m ≡ false
first_once m ns r = let h = rising_over m ns r m in grind (arith, nat_tests)

-- a number below the first of a rising list is not in it
pub has_under : (n m : ℕ) (ms : List ℕ) → rising (m ∷ ms) ≡ true → n < m → has (m ∷ ms) n ≡ false
unfolding has
has_under n m ms r l = let h = rising_over m ms r n in grind (arith, nat_tests)

-- the first of one list is not below the first of a rising list with the same members
first_le : (x y : ℕ) (xs ys : List ℕ) → rising (y ∷ ys) ≡ true → has (y ∷ ys) x ≡ true → y ≤ x
unfolding has
first_le x y xs ys r h = let o = rising_over y ys r x in grind (arith, nat_tests)

-- two rising lists with the same members are equal
pub equal_by_members :
    (xs ys : List ℕ) → rising xs ≡ true → rising ys ≡ true → ((n : ℕ) → has xs n ≡ has ys n) → xs ≡ ys
unfolding has
equal_by_members [] [] r s e = refl
equal_by_members [] (y ∷ ys) r s e = let h = has_first y ys in let k = e y in grind (arith, nat_tests)
equal_by_members (x ∷ xs) [] r s e = let h = has_first x xs in let k = e x in grind (arith, nat_tests)
equal_by_members (x ∷ xs) (y ∷ ys) r s e =
    let p = first_le x y xs ys s (sym (e x) ∙ has_first x xs) in
    let q = first_le y x ys xs r (e y ∙ has_first y ys) in
    let same : x ≡ y = omega arith in
    let t = equal_by_members xs ys (rising_tail x xs r) (rising_tail y ys s) (rests x y xs ys r s same e) in
    cc
  where
    rests :
        (x y : ℕ) (xs ys : List ℕ) → rising (x ∷ xs) ≡ true → rising (y ∷ ys) ≡ true → x ≡ y →
        ((n : ℕ) → has (x ∷ xs) n ≡ has (y ∷ ys) n) → (n : ℕ) → has xs n ≡ has ys n
    rests x y xs ys r s same e n =
        let a = e n in
        let f = rising_over x xs r n in
        let g = rising_over y ys s n in
        grind (arith, nat_tests)

pub rising_drop : (i : ℕ) (xs : List ℕ) → rising xs ≡ true → rising (drop i xs) ≡ true
rising_drop zero xs r = r
rising_drop (suc i) [] r = r
rising_drop (suc i) (x ∷ xs) r = rising_drop i xs (rising_tail x xs r)
