-- How many numbers differ: sizes, symmetry, the triangle inequality, and that the differences make one list of the other.
use Rattle.std.proofs.Common.{◌≡◌, ℕ, ◌+◌, ◌≤◌, true, ◌&&◌, List, [], ◌∷◌, length, sym, refl, ap, ◌∙◌, arith}
use Rattle.std.proofs.lemmas.Bool.Decides.{nat_tests}
use Rattle.std.proofs.lemmas.List.{nil_from_length}
use Rattle.sorted.specs.Lists.{pick, has, rising, without, only, differ, put_all, without_all, brought}
use Rattle.sorted.proofs.Members.{has_first, has_later, rising_tail, rising_over, rising_cons, has_length, equal_by_members}
use Rattle.sorted.proofs.Insertion.{without_has, without_rising, without_length}
use Rattle.sorted.proofs.Difference.{only_has, only_rising, only_all}
use Rattle.sorted.proofs.Union.{put_all_has, put_all_rising, put_all_length_le, without_all_has, without_all_rising, brought_has, brought_rising}

-- a rising list whose members another has is no longer than it
pub subset_length :
    (xs ys : List ℕ) → rising xs ≡ true → rising ys ≡ true → ((n : ℕ) → has xs n ≡ true → has ys n ≡ true) → length xs ≤ length ys
subset_length [] ys r s f = omega arith
subset_length (x ∷ xs) ys r s f =
    let here = f x (has_first x xs) in
    let w = without_length x ys in
    let h = subset_length xs (without x ys) (rising_tail x xs r) (without_rising x ys s) (rest x xs ys r s f) in
    let p = has_length x ys here in
    grind (arith, nat_tests)
  where
    rest :
        (x : ℕ) (xs ys : List ℕ) → rising (x ∷ xs) ≡ true → rising ys ≡ true →
        ((n : ℕ) → has (x ∷ xs) n ≡ true → has ys n ≡ true) → (n : ℕ) → has xs n ≡ true → has (without x ys) n ≡ true
    rest x xs ys r s f n h =
        let l = rising_over x xs r n h in
        let i = f n (has_later x n xs h) in
        let w = without_has x ys n s in
        grind (arith, nat_tests)

-- what is in both lists, in the order of the first
common : List ℕ → List ℕ → List ℕ
common [] ys = []
common (x ∷ xs) ys = pick (has ys x) (x ∷ common xs ys) (common xs ys)

common_has : (xs ys : List ℕ) (n : ℕ) → has (common xs ys) n ≡ (has xs n && has ys n)
unfolding has common
common_has [] ys n = refl
common_has (x ∷ xs) ys n =
    let h = common_has xs ys n in
    let same : x ≡ n → has ys x ≡ has ys n = λ e. ap (has ys) e in
    grind (arith, nat_tests)

common_rising : (xs ys : List ℕ) → rising xs ≡ true → rising (common xs ys) ≡ true
unfolding common
common_rising [] ys r = r
common_rising (x ∷ xs) ys r =
    let t = common_rising xs ys (rising_tail x xs r) in
    let c = rising_cons x (common xs ys) (λ k h. let p = common_has xs ys k in rising_over x xs r k (grind (arith, nat_tests))) t in
    grind (arith, nat_tests)

common_sym : (xs ys : List ℕ) → rising xs ≡ true → rising ys ≡ true → common xs ys ≡ common ys xs
common_sym xs ys r s =
    equal_by_members (common xs ys) (common ys xs) (common_rising xs ys r) (common_rising ys xs s)
    (λ k. let a = common_has xs ys k in let b = common_has ys xs k in grind (arith, nat_tests))

split_length : (xs ys : List ℕ) → length xs ≡ length (only xs ys) + length (common xs ys)
unfolding only common
split_length [] ys = refl
split_length (x ∷ xs) ys = let h = split_length xs ys in grind (arith, nat_tests)

-- the sizes of two lists differ as the sizes of what only one has
pub only_lengths : (xs ys : List ℕ) → rising xs ≡ true → rising ys ≡ true → length xs + length (only ys xs) ≡ length ys + length (only xs ys)
only_lengths xs ys r s =
    let a = split_length xs ys in let b = split_length ys xs in let c = ap length (common_sym xs ys r s) in omega arith

pub differ_sym : (xs ys : List ℕ) → differ xs ys ≡ differ ys xs
unfolding differ has
differ_sym xs ys = omega arith

-- what differs, taken out and put in, makes one list of the other
pub brought_there : (xs ys : List ℕ) → rising xs ≡ true → rising ys ≡ true → brought ys (only ys xs) (only xs ys) ≡ xs
brought_there xs ys r s =
    equal_by_members (brought ys (only ys xs) (only xs ys)) xs (brought_rising ys (only ys xs) (only xs ys) s) r
    (λ k. let a = brought_has ys (only ys xs) (only xs ys) k s in let b = only_has ys xs k in let c = only_has xs ys k in grind (arith, nat_tests))

-- what the third list lacks of the first, the second lacks, or the third lacks of the second
only_triangle :
    (xs ys zs : List ℕ) → rising xs ≡ true → rising ys ≡ true → length (only xs zs) ≤ length (only xs ys) + length (only ys zs)
only_triangle xs ys zs r s =
    let a = subset_length (only xs zs) (put_all (only xs ys) (only ys zs)) (only_rising xs zs r)
    (put_all_rising (only xs ys) (only ys zs) (only_rising ys zs s)) (λ n h. inside n h) in
    let b = put_all_length_le (only xs ys) (only ys zs) in
    omega arith
  where
    inside : (n : ℕ) → has (only xs zs) n ≡ true → has (put_all (only xs ys) (only ys zs)) n ≡ true
    inside n h =
        let a = only_has xs zs n in let b = only_has xs ys n in let c = only_has ys zs n in
        let d = put_all_has (only xs ys) (only ys zs) n in grind (arith, nat_tests)

pub triangle : (xs ys zs : List ℕ) → rising xs ≡ true → rising ys ≡ true → rising zs ≡ true → differ xs zs ≤ differ xs ys + differ ys zs
unfolding differ has
triangle xs ys zs r s t =
    let a = only_triangle xs ys zs r s in let b = only_triangle zs ys xs t s in omega arith

pub differ_zero : (xs ys : List ℕ) → rising xs ≡ true → rising ys ≡ true → differ xs ys ≡ 0 → xs ≡ ys
unfolding differ has
differ_zero xs ys r s e =
    equal_by_members xs ys r s (λ k.
    let a = only_has xs ys k in let b = only_has ys xs k in
    let c = nil_from_length (only xs ys) (omega arith) in let d = nil_from_length (only ys xs) (omega arith) in
    let f = ap (λ l. has l k) c in let g = ap (λ l. has l k) d in grind (arith, nat_tests))

pub differ_itself : (xs : List ℕ) → differ xs xs ≡ 0
unfolding differ
differ_itself xs = let e = ap length (only_all xs xs (λ n h. h)) in omega arith

-- a difference is the removal of all that the other list has
pub without_all_only : (xs ys : List ℕ) → rising xs ≡ true → without_all ys xs ≡ only xs ys
without_all_only xs ys r =
    equal_by_members (without_all ys xs) (only xs ys) (without_all_rising ys xs r) (only_rising xs ys r)
    (λ k. without_all_has ys xs k r ∙ sym (only_has xs ys k))

pub union_length : (xs ys : List ℕ) → rising xs ≡ true → rising ys ≡ true → length (put_all xs ys) ≡ length ys + length (only xs ys)
union_length xs ys r s =
    let u = put_all xs ys in
    let t = put_all_rising xs ys s in
    let a = only_lengths u ys t s in
    let b = ap length (only_all ys u (λ n h. let p = put_all_has xs ys n in grind (arith, nat_tests))) in
    let e : only u ys ≡ only xs ys =
    equal_by_members (only u ys) (only xs ys) (only_rising u ys t) (only_rising xs ys r)
    (λ k. let p = only_has u ys k in let q = only_has xs ys k in let w = put_all_has xs ys k in grind (arith, nat_tests)) in
    let d = ap length e in
    omega arith

pub differences_do :
    (xs ys : List ℕ) → rising xs ≡ true → rising ys ≡ true →
    (brought ys (only ys xs) (only xs ys) ≡ xs) × (length xs + length (only ys xs) ≡ length ys + length (only xs ys)) × (differ xs ys ≡ differ ys xs)
differences_do xs ys r s = (brought_there xs ys r s, only_lengths xs ys r s, differ_sym xs ys)
