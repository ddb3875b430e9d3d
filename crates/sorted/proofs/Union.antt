-- The union of two lists, and many numbers taken out.
use Rattle.std.proofs.Common.{◌≡◌, ℕ, ◌+◌, ◌≤◌, true, not, ◌&&◌, List, [], ◌∷◌, length, refl, arith}
use Rattle.std.proofs.lemmas.Bool.Decides.{nat_tests}
use Rattle.sorted.specs.Lists.{or, has, rising, all_below, put_all, without_all, brought}
use Rattle.sorted.proofs.Members.{rising_tail, rising_over, has_below, below_from_has, equal_by_members}
use Rattle.sorted.proofs.Insertion.{put_has, put_rising, put_length_le, without_has, without_rising, without_below, put_first}

pub put_all_has : (ns ms : List ℕ) (k : ℕ) → has (put_all ns ms) k ≡ or (has ns k) (has ms k)
unfolding has put_all
put_all_has [] ms k = refl
put_all_has (n ∷ ns) ms k = let h = put_all_has ns ms k in let p = put_has n (put_all ns ms) k in grind (arith, nat_tests)

pub put_all_rising : (ns ms : List ℕ) → rising ms ≡ true → rising (put_all ns ms) ≡ true
unfolding put_all
put_all_rising [] ms r = r
put_all_rising (n ∷ ns) ms r = put_rising n (put_all ns ms) (put_all_rising ns ms r)

pub put_all_below : (b : ℕ) (ns ms : List ℕ) → all_below b ns ≡ true → all_below b ms ≡ true → all_below b (put_all ns ms) ≡ true
put_all_below b ns ms e f =
    below_from_has b (put_all ns ms) (λ k h. let p = put_all_has ns ms k in let x = has_below b k ns in let y = has_below b k ms in grind (arith, nat_tests))

pub put_all_length_le : (ns ms : List ℕ) → length (put_all ns ms) ≤ length ns + length ms
unfolding put_all
put_all_length_le [] ms = omega arith
put_all_length_le (n ∷ ns) ms = let h = put_all_length_le ns ms in let p = put_length_le n (put_all ns ms) in omega arith

pub put_all_nil : (ns : List ℕ) → rising ns ≡ true → put_all ns [] ≡ ns
unfolding put_all
put_all_nil [] r = refl
put_all_nil (n ∷ ns) r =
    let h = put_all_nil ns (rising_tail n ns r) in rw h (put_first n ns (rising_over n ns r))

pub union_comm : (xs ys : List ℕ) → rising xs ≡ true → rising ys ≡ true → put_all xs ys ≡ put_all ys xs
union_comm xs ys r s =
    equal_by_members (put_all xs ys) (put_all ys xs) (put_all_rising xs ys s) (put_all_rising ys xs r)
    (λ k. let a = put_all_has xs ys k in let b = put_all_has ys xs k in grind (arith, nat_tests))

pub union_assoc : (xs ys zs : List ℕ) → rising zs ≡ true → put_all xs (put_all ys zs) ≡ put_all (put_all xs ys) zs
union_assoc xs ys zs r =
    equal_by_members (put_all xs (put_all ys zs)) (put_all (put_all xs ys) zs)
    (put_all_rising xs (put_all ys zs) (put_all_rising ys zs r)) (put_all_rising (put_all xs ys) zs r)
    (λ k. let a = put_all_has xs (put_all ys zs) k in let b = put_all_has ys zs k in
    let c = put_all_has (put_all xs ys) zs k in let d = put_all_has xs ys k in grind (arith, nat_tests))

pub union_idem : (xs : List ℕ) → rising xs ≡ true → put_all xs xs ≡ xs
union_idem xs r =
    equal_by_members (put_all xs xs) xs (put_all_rising xs xs r) r (λ k. let a = put_all_has xs xs k in grind (arith, nat_tests))

pub without_all_rising : (ns ms : List ℕ) → rising ms ≡ true → rising (without_all ns ms) ≡ true
unfolding without_all
without_all_rising [] ms r = r
without_all_rising (n ∷ ns) ms r = without_rising n (without_all ns ms) (without_all_rising ns ms r)

pub without_all_has : (ns ms : List ℕ) (k : ℕ) → rising ms ≡ true → has (without_all ns ms) k ≡ (has ms k && not (has ns k))
unfolding has without_all
without_all_has [] ms k r = grind (arith, nat_tests)
without_all_has (n ∷ ns) ms k r =
    let h = without_all_has ns ms k r in
    let w = without_has n (without_all ns ms) k (without_all_rising ns ms r) in
    grind (arith, nat_tests)

pub without_all_below : (b : ℕ) (ns ms : List ℕ) → all_below b ms ≡ true → all_below b (without_all ns ms) ≡ true
unfolding without_all
without_all_below b [] ms h = h
without_all_below b (n ∷ ns) ms h = without_below b n (without_all ns ms) (without_all_below b ns ms h)

pub brought_has : (xs gone come : List ℕ) (k : ℕ) → rising xs ≡ true → has (brought xs gone come) k ≡ or (has come k) (has xs k && not (has gone k))
unfolding brought
brought_has xs gone come k r =
    let a = put_all_has come (without_all gone xs) k in let b = without_all_has gone xs k r in grind (arith, nat_tests)

pub brought_rising : (xs gone come : List ℕ) → rising xs ≡ true → rising (brought xs gone come) ≡ true
unfolding brought
brought_rising xs gone come r = put_all_rising come (without_all gone xs) (without_all_rising gone xs r)

pub brought_below :
    (b : ℕ) (xs gone come : List ℕ) → all_below b xs ≡ true → all_below b come ≡ true → all_below b (brought xs gone come) ≡ true
unfolding brought
brought_below b xs gone come h k = put_all_below b come (without_all gone xs) k (without_all_below b gone xs h)
