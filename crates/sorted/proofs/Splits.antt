-- Two rising lists, each split behind the last of the other: what lies beyond is put behind the merge of the rest.
use Rattle.std.proofs.Common.{◌≡◌, ℕ, zero, suc, ◌-◌, ◌<◌, ◌≤◌, true, List, [], ◌∷◌, ◌++◌, length, get_or, drop, sym, refl, ap, ◌∙◌, arith}
use Rattle.std.proofs.lemmas.Bool.Decides.{nat_tests}
use Rattle.sorted.specs.Lists.{or, has, rising, only, put_all}
use Rattle.sorted.specs.Merged.{Split}
use Rattle.sorted.proofs.Members.{has_first, has_later, has_append, rising_tail, rising_over, rising_cons, equal_by_members}
use Rattle.sorted.proofs.Difference.{only_has, only_from, only_rising}
use Rattle.sorted.proofs.Union.{put_all_has, put_all_rising}

-- each number of xs is below each of ys
abbrev Before : List ℕ → List ℕ → Type 0
Before xs ys = (m n : ℕ) → has xs m ≡ true → has ys n ≡ true → m < n

rising_append : (xs ys : List ℕ) → rising xs ≡ true → rising ys ≡ true → Before xs ys → rising (xs ++ ys) ≡ true
rising_append [] ys r s b = s
rising_append (x ∷ xs) ys r s b =
    rising_cons x (xs ++ ys)
    (λ n h. let a = has_append xs ys n in let o = rising_over x xs r n in let p = b x n (has_first x xs) in grind (arith, nat_tests))
    (rising_append xs ys (rising_tail x xs r) s (λ m n h k. b m n (has_later x m xs h) k))

front_rising : (xs ys : List ℕ) → rising (xs ++ ys) ≡ true → rising xs ≡ true
unfolding rising
front_rising [] ys r = refl
front_rising (x ∷ xs) ys r =
    rising_cons x xs (λ n h. let a = has_append xs ys n in let o = rising_over x (xs ++ ys) r n in grind (arith, nat_tests))
    (front_rising xs ys (rising_tail x (xs ++ ys) r))

back_rising : (xs ys : List ℕ) → rising (xs ++ ys) ≡ true → rising ys ≡ true
back_rising [] ys r = r
back_rising (x ∷ xs) ys r = back_rising xs ys (rising_tail x (xs ++ ys) r)

front_before : (xs ys : List ℕ) → rising (xs ++ ys) ≡ true → Before xs ys
unfolding has
front_before [] ys r m n h k = grind (arith, nat_tests)
front_before (x ∷ xs) ys r m n h k =
    let a = has_append xs ys n in
    let o = rising_over x (xs ++ ys) r n in
    let p = front_before xs ys (rising_tail x (xs ++ ys) r) m n in
    grind (arith, nat_tests)

pub near_rising : (xs ys near beyond : List ℕ) → rising xs ≡ true → Split xs ys near beyond → rising near ≡ true
near_rising xs ys near beyond r p = front_rising near beyond (ap rising p.whole ∙ r)

-- what stands from a place on is above a number that is below each of these places
pub has_beyond : (l : ℕ) (xs : List ℕ) (i : ℕ) → ((k : ℕ) → i ≤ k → k < length xs → l < get_or xs k 0) → (n : ℕ) → has (drop i xs) n ≡ true → l < n
unfolding has
has_beyond l [] zero f n h = grind (arith, nat_tests)
has_beyond l [] (suc i) f n h = grind (arith, nat_tests)
has_beyond l (x ∷ xs) zero f n h =
    let a = f 0 (omega arith) (omega arith) in
    let t = has_beyond l xs 0 (λ k p q. f (suc k) (omega arith) (omega arith)) n in
    grind (arith, nat_tests)
has_beyond l (x ∷ xs) (suc i) f n h = has_beyond l xs i (λ k p q. f (suc k) (omega arith) (omega arith)) n h

-- no number of a rising list is above its last
pub last_most : (ys : List ℕ) → rising ys ≡ true → (k : ℕ) → has ys k ≡ true → k ≤ get_or ys (length ys - 1) 0
unfolding has
last_most [] r k h = grind (arith, nat_tests)
last_most (y ∷ []) r k h = grind (arith, nat_tests)
last_most (y ∷ z ∷ zs) r k h =
    let o = rising_over y (z ∷ zs) r z (has_first z zs) in
    let a = last_most (z ∷ zs) (rising_tail y (z ∷ zs) r) z (has_first z zs) in
    let b = last_most (z ∷ zs) (rising_tail y (z ∷ zs) r) k in
    let e : length (y ∷ z ∷ zs) - 1 ≡ suc (length (z ∷ zs) - 1) = omega arith in
    rw e (grind (arith, nat_tests))

module _ (xs ys near beyond there past : List ℕ) (r : rising xs ≡ true) (s : rising ys ≡ true) (p : Split xs ys near beyond) (q : Split ys xs there past) where
  has_xs : (n : ℕ) → has xs n ≡ or (has near n) (has beyond n)
  has_xs n = ap (λ zs. has zs n) (sym p.whole) ∙ has_append near beyond n

  has_ys : (n : ℕ) → has ys n ≡ or (has there n) (has past n)
  has_ys n = ap (λ zs. has zs n) (sym q.whole) ∙ has_append there past n

  xs_rise : rising (near ++ beyond) ≡ true
  xs_rise = ap rising p.whole ∙ r

  ys_rise : rising (there ++ past) ≡ true
  ys_rise = ap rising q.whole ∙ s

  pub only_split : only xs ys ≡ only near there ++ beyond
  only_split =
      equal_by_members (only xs ys) (only near there ++ beyond) (only_rising xs ys r)
      (rising_append (only near there) beyond (only_rising near there (front_rising near beyond xs_rise)) (back_rising near beyond xs_rise)
      (λ m n h k. front_before near beyond xs_rise m n (only_from near there m h) k))
      (λ n.
      let a = only_has xs ys n in
      let b = has_append (only near there) beyond n in
      let c = only_has near there n in
      let d = has_xs n in
      let e = has_ys n in
      let f = p.above n n in
      let g = q.above n n in
      grind (arith, nat_tests))

  pub union_split : put_all xs ys ≡ (put_all near there ++ beyond) ++ past
  union_split =
      equal_by_members (put_all xs ys) ((put_all near there ++ beyond) ++ past) (put_all_rising xs ys s)
      (rising_append (put_all near there ++ beyond) past
      (rising_append (put_all near there) beyond (put_all_rising near there (front_rising there past ys_rise)) (back_rising near beyond xs_rise)
      (λ m n h k.
      let a = put_all_has near there m in
      let b = front_before near beyond xs_rise m n in
      let c = has_ys m in
      let d = p.above n m k in
      grind (arith, nat_tests)))
      (back_rising there past ys_rise)
      (λ m n h k.
      let a = has_append (put_all near there) beyond m in
      let b = put_all_has near there m in
      let c = has_xs m in
      let d = front_before there past ys_rise m n in
      let e = q.above n m k in
      grind (arith, nat_tests)))
      (λ n.
      let a = put_all_has xs ys n in
      let b = has_append (put_all near there ++ beyond) past n in
      let c = has_append (put_all near there) beyond n in
      let d = put_all_has near there n in
      let e = has_xs n in
      let f = has_ys n in
      grind (arith, nat_tests))
