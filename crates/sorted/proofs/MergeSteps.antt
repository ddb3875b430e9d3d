-- A merge of two rising lists: its parts are their union, and what each has alone.
use Rattle.std.proofs.Common.{Ordering, Less, Equal, Greater, ◌≡◌, ℕ, ◌+◌, ◌<◌, ◌≤◌, Bool, true, false, not, List, [], ◌∷◌, length, map, sym, refl, ap, ◌∙◌, arith}
use Rattle.std.specs.List.{filter}
use Rattle.std.specs.Ordering.{nat_cmp, match_ordering}
use Rattle.std.proofs.lemmas.Bool.Decides.{nat_tests}
use Rattle.std.proofs.lemmas.Cmp.{ranked}
use Rattle.std.proofs.lemmas.List.{length-map}
use Rattle.sorted.specs.declared.merge.Side.{Side}
use Rattle.sorted.specs.declared.merge.Side.TheVariants.{Left, Both, Right}
use Rattle.sorted.specs.Lists.{has, rising, only, differ, put_all}
use Rattle.sorted.specs.Merged.{merged, merged_from}
use Rattle.sorted.proofs.Members.{has_first, rising_tail, rising_over, rising_cons, has_under, equal_by_members}
use Rattle.sorted.proofs.Insertion.{put_first}
use Rattle.sorted.proofs.Difference.{only_cong, only_nil}
use Rattle.sorted.proofs.Union.{put_all_has, put_all_rising, put_all_nil, put_all_length_le, union_comm}

pub only_less : (x y : ℕ) (xs ys : List ℕ) → rising (y ∷ ys) ≡ true → x < y → only (x ∷ xs) (y ∷ ys) ≡ x ∷ only xs (y ∷ ys)
unfolding only
only_less x y xs ys s l = let h = has_under x y ys s l in grind (arith, nat_tests)

pub only_equal : (x y : ℕ) (xs ys : List ℕ) → rising (x ∷ xs) ≡ true → x ≡ y → only (x ∷ xs) (y ∷ ys) ≡ only xs ys
unfolding only has
only_equal x y xs ys r e =
    let h = has_first y ys in
    let c = only_cong xs (y ∷ ys) ys (λ n p. let o = rising_over x xs r n p in grind (arith, nat_tests)) in
    grind (arith, nat_tests)

pub only_greater : (x y : ℕ) (xs ys : List ℕ) → rising (x ∷ xs) ≡ true → y < x → only (x ∷ xs) (y ∷ ys) ≡ only (x ∷ xs) ys
unfolding has
only_greater x y xs ys r l =
    only_cong (x ∷ xs) (y ∷ ys) ys (λ n p. let o = has_under y x xs r l in grind (arith, nat_tests))

union_less : (x y : ℕ) (xs ys : List ℕ) → rising (x ∷ xs) ≡ true → rising (y ∷ ys) ≡ true → x < y → put_all (x ∷ xs) (y ∷ ys) ≡ x ∷ put_all xs (y ∷ ys)
unfolding put_all has
union_less x y xs ys r s l =
    put_first x (put_all xs (y ∷ ys)) (λ n h.
    let p = put_all_has xs (y ∷ ys) n in let a = rising_over x xs r n in let b = rising_over y ys s n in grind (arith, nat_tests))

union_equal : (x y : ℕ) (xs ys : List ℕ) → rising (x ∷ xs) ≡ true → rising (y ∷ ys) ≡ true → x ≡ y → put_all (x ∷ xs) (y ∷ ys) ≡ x ∷ put_all xs ys
unfolding has
union_equal x y xs ys r s e =
    equal_by_members (put_all (x ∷ xs) (y ∷ ys)) (x ∷ put_all xs ys) (put_all_rising (x ∷ xs) (y ∷ ys) s)
    (rising_cons x (put_all xs ys) (λ n h. let p = put_all_has xs ys n in let a = rising_over x xs r n in let b = rising_over y ys s n in grind (arith, nat_tests))
    (put_all_rising xs ys (rising_tail y ys s)))
    (λ n. let p = put_all_has (x ∷ xs) (y ∷ ys) n in let q = put_all_has xs ys n in grind (arith, nat_tests))

union_greater : (x y : ℕ) (xs ys : List ℕ) → rising (x ∷ xs) ≡ true → rising (y ∷ ys) ≡ true → y < x → put_all (x ∷ xs) (y ∷ ys) ≡ y ∷ put_all (x ∷ xs) ys
union_greater x y xs ys r s l =
    union_comm (x ∷ xs) (y ∷ ys) r s ∙ union_less y x ys xs s r l ∙ ap (λ zs. y ∷ zs) (union_comm ys (x ∷ xs) (rising_tail y ys s) r)

abbrev pub is_left : Side → Bool
is_left Left = true
is_left Both = false
is_left Right = false

abbrev is_right : Side → Bool
is_right Left = false
is_right Both = false
is_right Right = true

abbrev pub is_both : Side → Bool
is_both Left = false
is_both Both = true
is_both Right = false

abbrev pub numbers : List (Side × ℕ) → List ℕ
numbers = map (λ p. p.1)

-- zs has the numbers of xs and ys, and says which of them are in one alone
pub record Parts (xs ys : List ℕ) (zs : List (Side × ℕ)) : Type 0 where
  pub union : numbers zs ≡ put_all xs ys
  pub left : numbers (filter (λ p. is_left p.0) zs) ≡ only xs ys
  pub right : numbers (filter (λ p. is_right p.0) zs) ≡ only ys xs

-- numbers that all come from one side
module _ (side : Side) where
  abbrev alone : List ℕ → List (Side × ℕ)
  alone = map (λ n. (side, n))

  numbers_alone : (xs : List ℕ) → numbers (alone xs) ≡ xs
  numbers_alone [] = refl
  numbers_alone (x ∷ xs) = ap (λ t. x ∷ t) (numbers_alone xs)

  all_kept : (test : Side → Bool) → test side ≡ true → (xs : List ℕ) → numbers (filter (λ p. test p.0) (alone xs)) ≡ xs
  all_kept test e [] = refl
  all_kept test e (x ∷ xs) = rw e (ap (λ t. x ∷ t) (all_kept test e xs))

  none_kept : (test : Side → Bool) → test side ≡ false → (xs : List ℕ) → numbers (filter (λ p. test p.0) (alone xs)) ≡ []
  none_kept test e [] = refl
  none_kept test e (x ∷ xs) = rw e (none_kept test e xs)

all_left : (xs : List ℕ) → rising xs ≡ true → Parts xs [] (map (λ n. (Left, n)) xs)
unfolding only
all_left xs r = record {
  union = numbers_alone Left xs ∙ sym (put_all_nil xs r);
  left = all_kept Left is_left refl xs ∙ sym (only_nil xs);
  right = none_kept Left is_right refl xs;
}

all_right : (ys : List ℕ) → Parts [] ys (map (λ n. (Right, n)) ys)
unfolding only put_all
all_right ys = record {
  union = numbers_alone Right ys;
  left = none_kept Right is_left refl ys;
  right = all_kept Right is_right refl ys ∙ sym (only_nil ys);
}

parts_from :
    (x : ℕ) (xs : List ℕ) → rising (x ∷ xs) ≡ true → ((ys : List ℕ) → rising ys ≡ true → Parts xs ys (merged xs ys)) →
    (ys : List ℕ) → rising ys ≡ true → Parts (x ∷ xs) ys (merged_from x xs (merged xs) ys)
parts_from x xs r on [] s = all_left (x ∷ xs) r
parts_from x xs r on (y ∷ ys) s = by_order (parts_from x xs r on ys (rising_tail y ys s)) (nat_cmp x y) refl
  where
    by_order :
        Parts (x ∷ xs) ys (merged_from x xs (merged xs) ys) → (o : Ordering) → o ≡ nat_cmp x y →
        Parts (x ∷ xs) (y ∷ ys)
        (match_ordering o ((Left, x) ∷ merged xs (y ∷ ys)) ((Both, x) ∷ merged xs ys) ((Right, y) ∷ merged_from x xs (merged xs) ys))
    by_order p Less e =
        let l = ranked x y Less e in
        let q = on (y ∷ ys) s in
        record {
          union = ap (λ t. x ∷ t) q.union ∙ sym (union_less x y xs ys r s l);
          left = ap (λ t. x ∷ t) q.left ∙ sym (only_less x y xs ys s l);
          right = q.right ∙ sym (only_greater y x ys xs s l);
        }
    by_order p Equal e =
        let l = ranked x y Equal e in
        let q = on ys (rising_tail y ys s) in
        record {
          union = ap (λ t. x ∷ t) q.union ∙ sym (union_equal x y xs ys r s l);
          left = q.left ∙ sym (only_equal x y xs ys r l);
          right = q.right ∙ sym (only_equal y x ys xs s (sym l));
        }
    by_order p Greater e =
        let l = ranked x y Greater e in
        record {
          union = ap (λ t. y ∷ t) p.union ∙ sym (union_greater x y xs ys r s l);
          left = p.left ∙ sym (only_greater x y xs ys r l);
          right = ap (λ t. y ∷ t) p.right ∙ sym (only_less y x ys xs r l);
        }

pub merged_parts : (xs ys : List ℕ) → rising xs ≡ true → rising ys ≡ true → Parts xs ys (merged xs ys)
merged_parts [] ys r s = all_right ys
merged_parts (x ∷ xs) ys r s = parts_from x xs r (λ zs. merged_parts xs zs (rising_tail x xs r)) ys s

-- what is not in both is in one alone
apart : (zs : List (Side × ℕ)) →
    length (filter (λ p. not (is_both p.0)) zs)
    ≡ length (numbers (filter (λ p. is_left p.0) zs)) + length (numbers (filter (λ p. is_right p.0) zs))
apart [] = refl
apart ((Left, n) ∷ zs) = let h = apart zs in omega arith
apart ((Both, n) ∷ zs) = apart zs
apart ((Right, n) ∷ zs) = let h = apart zs in omega arith

pub merged_apart : (xs ys : List ℕ) → rising xs ≡ true → rising ys ≡ true → length (filter (λ p. not (is_both p.0)) (merged xs ys)) ≡ differ xs ys
unfolding differ
merged_apart xs ys r s =
    let p = merged_parts xs ys r s in
    let a = apart (merged xs ys) in
    let b = ap length p.left in
    let c = ap length p.right in
    omega arith

pub merged_length : (xs ys : List ℕ) → rising xs ≡ true → rising ys ≡ true → length (merged xs ys) ≤ length xs + length ys
merged_length xs ys r s =
    let a = ap length (merged_parts xs ys r s).union in
    let b = length-map (merged xs ys) (λ p. p.1) in
    let c = put_all_length_le xs ys in
    omega arith
