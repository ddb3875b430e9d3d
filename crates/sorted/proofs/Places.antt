-- Numbers by their places in a rising list, and what a search there finds.
use Rattle.std.proofs.Common.{Equal, ◌≡◌, ℕ, zero, suc, ◌<◌, ◌≤◌, Bool, true, false, cond, List, [], ◌∷◌, length, get_or, IfOk, Ok, Err, Result, sym, refl, ap, ◌∙◌, arith, MatchResult}
use Rattle.std.specs.List.{insert, remove, HoldsAt}
use Rattle.std.specs.List.Sorted.{IsBinarySearchResult}
use Rattle.std.proofs.lemmas.Result.{MatchResult-weaker}
use Rattle.std.proofs.lemmas.List.Sorted.{searched}
use Rattle.std.proofs.lemmas.Bool.Decides.{nat_tests}
use Rattle.sorted.specs.Lists.{has, rising, put, without}
use Rattle.sorted.specs.Edits.{Found, Gap, Hit, Miss, Inserted, Removed}
use Rattle.sorted.proofs.Members.{has_first, has_later, rising_tail, rising_over}
use Rattle.sorted.proofs.Insertion.{put_rising, without_rising, put_length, put_there, without_length, without_absent}
use Rattle.std.specs.Ordering.{nat_cmp}
use Rattle.std.proofs.lemmas.Cmp.{ranked}

pub has_place : (xs : List ℕ) (i : ℕ) → i < length xs → has xs (get_or xs i 0) ≡ true
has_place [] i l = absurd (omega arith)
has_place (x ∷ xs) zero l = has_first x xs
has_place (x ∷ xs) (suc i) l = has_later x (get_or xs i 0) xs (has_place xs i (omega arith))

-- a later place has a larger number
pub rising_places : (xs : List ℕ) → rising xs ≡ true → (i j : ℕ) → i < j → j < length xs → get_or xs i 0 < get_or xs j 0
rising_places [] r i j l h = absurd (omega arith)
rising_places (x ∷ xs) r i zero l h = absurd (omega arith)
rising_places (x ∷ xs) r zero (suc j) l h = rising_over x xs r (get_or xs j 0) (has_place xs j (omega arith))
rising_places (x ∷ xs) r (suc i) (suc j) l h = rising_places xs (rising_tail x xs r) i j (omega arith) (omega arith)

pub rising_places_le : (xs : List ℕ) → rising xs ≡ true → (i j : ℕ) → i ≤ j → j < length xs → get_or xs i 0 ≤ get_or xs j 0
rising_places_le xs r i j l h = let e : i ≡ j → get_or xs i 0 ≡ get_or xs j 0 = λ e. ap (λ k. get_or xs k 0) e in
    let s = rising_places xs r i j in grind (arith, nat_tests)

taken : (n : ℕ) (xs : List ℕ) (i : ℕ) → rising xs ≡ true → i < length xs → get_or xs i 0 ≡ n → remove xs i ≡ without n xs
unfolding without
taken n [] i r l e = absurd (omega arith)
taken n (x ∷ xs) zero r l e = grind (arith, nat_tests)
taken n (x ∷ xs) (suc i) r l e =
    let h = taken n xs i (rising_tail x xs r) (omega arith) e in
    let o = rising_over x xs r (get_or xs i 0) (has_place xs i (omega arith)) in
    grind (arith, nat_tests)

given : (n : ℕ) (xs : List ℕ) (i : ℕ) → i ≤ length xs → ((k : ℕ) → k < i → get_or xs k 0 < n) →
    ((k : ℕ) → i ≤ k → k < length xs → n < get_or xs k 0) → insert xs i n ≡ put n xs
unfolding put
given n [] zero l f g = refl
given n [] (suc i) l f g = absurd (omega arith)
given n (x ∷ xs) zero l f g = let h = g 0 (omega arith) (omega arith) in grind (arith, nat_tests)
given n (x ∷ xs) (suc i) l f g =
    let h = given n xs i (omega arith) (λ k p. f (suc k) (omega arith)) (λ k p q. g (suc k) (omega arith) (omega arith)) in
    let b = f 0 (omega arith) in
    grind (arith, nat_tests)

absent : (n : ℕ) (xs : List ℕ) (i : ℕ) → ((k : ℕ) → k < i → get_or xs k 0 < n) →
    ((k : ℕ) → i ≤ k → k < length xs → n < get_or xs k 0) → has xs n ≡ false
unfolding has
absent n [] i f g = refl
absent n (x ∷ xs) zero f g =
    let h = g 0 (omega arith) (omega arith) in
    let t = absent n xs 0 (λ k p. absurd (omega arith)) (λ k p q. g (suc k) (omega arith) (omega arith)) in
    grind (arith, nat_tests)
absent n (x ∷ xs) (suc i) f g =
    let h = f 0 (omega arith) in
    let t = absent n xs i (λ k p. f (suc k) (omega arith)) (λ k p q. g (suc k) (omega arith) (omega arith)) in
    grind (arith, nat_tests)

-- what a binary search finds in a rising list
pub located : (n : ℕ) (xs : List ℕ) (r : Result ℕ ℕ) → rising xs ≡ true → IsBinarySearchResult (λ y. nat_cmp y n) xs r → MatchResult r (Found n xs) (Gap n xs)
located n xs r s l =
    MatchResult-weaker r (searched xs n r l (rising_places_le xs s))
    (λ i f. record { inside = f.0; there = rw f.1 at (has_place xs i f.0); taken = taken n xs i s f.0 f.1 })
    (λ i g. record { inside = g.0; absent = absent n xs i g.1 g.2; given = given n xs i g.0 g.1 g.2 })

-- what it finds in any list, and in one of which it is then known that it rises
pub searched_any : (n : ℕ) (xs : List ℕ) (r : Result ℕ ℕ)
    → MatchResult r (λ i. i < length xs) (λ i. i ≤ length xs)
    → IfOk r (HoldsAt (λ y. nat_cmp y n ≡ Equal) xs)
    → IsBinarySearchResult (λ y. nat_cmp y n) xs r
    → MatchResult r (Hit n xs) (Miss n xs)
searched_any n xs (Ok i) bound ok l =
    let is : get_or xs i 0 ≡ n = ranked (get_or xs i 0) n Equal (sym (ok 0)) in
    record { inside = bound; is = is; there = rw is at (has_place xs i bound); found = λ s. located n xs (Ok i) s l }
searched_any n xs (Err i) bound ok l = record { inside = bound; gap = λ s. located n xs (Err i) s l }

pub found_or_gap : (n : ℕ) (xs : List ℕ) (r : Result ℕ ℕ) → rising xs ≡ true → MatchResult r (Hit n xs) (Miss n xs) → MatchResult r (Found n xs) (Gap n xs)
found_or_gap n xs (Ok i) s h = h.found s
found_or_gap n xs (Err i) s h = h.gap s

pub inserted_new : (n : ℕ) (xs ys : List ℕ) → rising xs ≡ true → has xs n ≡ false → ys ≡ put n xs → Inserted n xs ys true
inserted_new n xs ys r h e =
    let c = ap length e ∙ put_length n xs r in
    record { told = grind (arith, nat_tests); items = e; same = λ t. grind (arith, nat_tests); count = grind (arith, nat_tests) }

pub inserted_there : (n : ℕ) (xs ys : List ℕ) → rising xs ≡ true → has xs n ≡ true → ys ≡ xs → Inserted n xs ys false
inserted_there n xs ys r h e =
    record { told = grind (arith, nat_tests); items = e ∙ sym (put_there n xs r h); same = λ t. e; count = ap length e }

pub removed_there : (n : ℕ) (xs ys : List ℕ) → has xs n ≡ true → ys ≡ without n xs → Removed n xs ys true
removed_there n xs ys h e =
    let c = ap length e ∙ without_length n xs in
    record { told = sym h; items = e; same = λ t. grind (arith, nat_tests); count = grind (arith, nat_tests) }

pub removed_not : (n : ℕ) (xs ys : List ℕ) → has xs n ≡ false → ys ≡ xs → Removed n xs ys false
removed_not n xs ys h e =
    record { told = sym h; items = e ∙ sym (without_absent n xs h); same = λ t. e; count = ap length e }

-- a list stays rising when a number is put into its gap, or nothing happens
pub rising_inserted : (n : ℕ) (xs : List ℕ) (i : ℕ) (b : Bool) (ys : List ℕ) → rising xs ≡ true → Gap n xs i → ys ≡ cond b (insert xs i n) xs → rising ys ≡ true
rising_inserted n xs i true ys r g e = ap rising (e ∙ g.given) ∙ put_rising n xs r
rising_inserted n xs i false ys r g e = ap rising e ∙ r

pub rising_removed : (n : ℕ) (xs : List ℕ) (i : ℕ) (ys : List ℕ) → rising xs ≡ true → Found n xs i → ys ≡ remove xs i → rising ys ≡ true
rising_removed n xs i ys r f e = ap rising (e ∙ f.taken) ∙ without_rising n xs r
