-- Putting a number into a list by rising number, and taking one out.
use Rattle.std.proofs.Common.{◌≡◌, ℕ, ◌+◌, ◌-◌, ◌<◌, ◌≤◌, true, false, not, ◌&&◌, eqb, List, [], ◌∷◌, length, refl, arith}
use Rattle.std.proofs.lemmas.Bool.Decides.{nat_tests}
use Rattle.sorted.specs.Lists.{pick, or, has, rising, all_below, put, without}
use Rattle.sorted.proofs.Members.{Over, has_first, rising_tail, rising_over, rising_cons, has_below, below_from_has, has_length, has_under, equal_by_members}

pub put_has : (n : ℕ) (xs : List ℕ) (k : ℕ) → has (put n xs) k ≡ or (eqb n k) (has xs k)
unfolding has put
put_has n [] k = refl
put_has n (x ∷ xs) k = let h = put_has n xs k in grind (arith, nat_tests)

pub put_rising : (n : ℕ) (xs : List ℕ) → rising xs ≡ true → rising (put n xs) ≡ true
unfolding rising has put
put_rising n [] r = refl
put_rising n (x ∷ xs) r =
    let t = put_rising n xs (rising_tail x xs r) in
    let c : x < n → rising (x ∷ put n xs) ≡ true = λ l. rising_cons x (put n xs) (over x n xs l (rising_over x xs r)) t in
    grind (arith, nat_tests)
  where
    over : (x n : ℕ) (xs : List ℕ) → x < n → Over x xs → Over x (put n xs)
    over x n xs l o k h = let p = put_has n xs k in let q = o k in grind (arith, nat_tests)

pub put_below : (b n : ℕ) (xs : List ℕ) → n < b → all_below b xs ≡ true → all_below b (put n xs) ≡ true
put_below b n xs l h = below_from_has b (put n xs) (λ k e. let p = put_has n xs k in let q = has_below b k xs in grind (arith, nat_tests))

-- a number that is below all others comes first
pub put_first : (n : ℕ) (xs : List ℕ) → Over n xs → put n xs ≡ n ∷ xs
unfolding put
put_first n [] o = refl
put_first n (x ∷ xs) o = let l = o x (has_first x xs) in grind (arith, nat_tests)

pub put_length : (n : ℕ) (xs : List ℕ) → rising xs ≡ true → length (put n xs) ≡ pick (has xs n) (length xs) (length xs + 1)
unfolding has put
put_length n [] r = refl
put_length n (x ∷ xs) r = let h = put_length n xs (rising_tail x xs r) in let u = has_under n x xs r in grind (arith, nat_tests)

pub put_length_le : (n : ℕ) (xs : List ℕ) → length (put n xs) ≤ length xs + 1
unfolding put
put_length_le n [] = omega arith
put_length_le n (x ∷ xs) = let h = put_length_le n xs in grind (arith, nat_tests)

pub put_there : (n : ℕ) (xs : List ℕ) → rising xs ≡ true → has xs n ≡ true → put n xs ≡ xs
put_there n xs r h =
    equal_by_members (put n xs) xs (put_rising n xs r) r (λ k. let p = put_has n xs k in grind (arith, nat_tests))

pub without_has : (n : ℕ) (xs : List ℕ) (k : ℕ) → rising xs ≡ true → has (without n xs) k ≡ (not (eqb n k) && has xs k)
unfolding has without
without_has n [] k r = grind (arith, nat_tests)
without_has n (x ∷ xs) k r =
    let h = without_has n xs k (rising_tail x xs r) in
    let f = rising_over x xs r k in
    grind (arith, nat_tests)

-- what is left was there
pub without_from : (n : ℕ) (xs : List ℕ) (k : ℕ) → has (without n xs) k ≡ true → has xs k ≡ true
unfolding has without
without_from n [] k h = h
without_from n (x ∷ xs) k h = let f = without_from n xs k in grind (arith, nat_tests)

pub without_rising : (n : ℕ) (xs : List ℕ) → rising xs ≡ true → rising (without n xs) ≡ true
unfolding without
without_rising n [] r = r
without_rising n (x ∷ xs) r =
    let t = rising_tail x xs r in
    let c = rising_cons x (without n xs) (λ k h. rising_over x xs r k (without_from n xs k h)) (without_rising n xs t) in
    grind (arith, nat_tests)

pub without_below : (b n : ℕ) (xs : List ℕ) → all_below b xs ≡ true → all_below b (without n xs) ≡ true
without_below b n xs h = below_from_has b (without n xs) (λ k e. has_below b k xs (without_from n xs k e) h)

pub without_absent : (n : ℕ) (xs : List ℕ) → has xs n ≡ false → without n xs ≡ xs
unfolding has without
without_absent n [] h = refl
without_absent n (x ∷ xs) h = let f = without_absent n xs in grind (arith, nat_tests)

pub without_length : (n : ℕ) (xs : List ℕ) → length (without n xs) ≡ pick (has xs n) (length xs - 1) (length xs)
unfolding has without
without_length n [] = refl
without_length n (x ∷ xs) = let h = without_length n xs in let p = has_length n xs in grind (arith, nat_tests)

-- taking a number out and putting it in, and the other way round
pub without_put : (n : ℕ) (xs : List ℕ) → rising xs ≡ true → without n (put n xs) ≡ without n xs
without_put n xs r =
    equal_by_members (without n (put n xs)) (without n xs) (without_rising n (put n xs) (put_rising n xs r)) (without_rising n xs r)
    (λ k. let a = without_has n (put n xs) k (put_rising n xs r) in let b = put_has n xs k in let c = without_has n xs k r in grind (arith, nat_tests))

pub put_without : (n : ℕ) (xs : List ℕ) → rising xs ≡ true → put n (without n xs) ≡ put n xs
put_without n xs r =
    equal_by_members (put n (without n xs)) (put n xs) (put_rising n (without n xs) (without_rising n xs r)) (put_rising n xs r)
    (λ k. let a = put_has n (without n xs) k in let b = put_has n xs k in let c = without_has n xs k r in grind (arith, nat_tests))

-- the order of insertion does not matter
pub put_put : (m n : ℕ) (xs : List ℕ) → rising xs ≡ true → put m (put n xs) ≡ put n (put m xs)
put_put m n xs r =
    equal_by_members (put m (put n xs)) (put n (put m xs)) (put_rising m (put n xs) (put_rising n xs r)) (put_rising n (put m xs) (put_rising m xs r))
    (λ k. let a = put_has m (put n xs) k in let b = put_has n xs k in let c = put_has n (put m xs) k in let d = put_has m xs k in grind (arith, nat_tests))

pub without_without : (m n : ℕ) (xs : List ℕ) → rising xs ≡ true → without m (without n xs) ≡ without n (without m xs)
without_without m n xs r =
    equal_by_members (without m (without n xs)) (without n (without m xs))
    (without_rising m (without n xs) (without_rising n xs r)) (without_rising n (without m xs) (without_rising m xs r))
    (λ k. let a = without_has m (without n xs) k (without_rising n xs r) in let b = without_has n xs k r in
    let c = without_has n (without m xs) k (without_rising m xs r) in let d = without_has m xs k r in grind (arith, nat_tests))
