-- Over any distinct points below a prime: two small explanations are one, and what follows from it.
use Rattle.std.proofs.Common.{◌≡◌, ℕ, ◌+◌, ◌*◌, ◌/◌, ◌%◌, ◌<◌, ◌≤◌, true, ◌⊎◌, List, [], ◌++◌, length, sym, refl, ap, ◌∙◌, subst, inl, inr, arith}
use native.Mathlib.Decide.{dec_lt}
use Rattle.std.proofs.lemmas.Bool.Decides.{nat_tests}
use Rattle.std.proofs.lemmas.List.{length-append}
use Rattle.field.specs.Prime.{Prime}
use Rattle.field.specs.Polynomial.{value, Among, Distinct, Below}
use Rattle.field.proofs.Congruence.{zero_by, as_multiple, mul_cong}
use Rattle.field.proofs.Euclid.{cancel, product_nonzero}
use Rattle.field.proofs.Roots.{among_below}
use Rattle.field.proofs.Values.{value_mod, value_append, value_member, value_zero, values_agree}
use Rattle.sorted.specs.Lists.{has, rising, only, differ, brought}
use Rattle.sorted.proofs.Members.{has_append, equal_by_members}
use Rattle.sorted.proofs.Difference.{only_has, only_rising}
use Rattle.sorted.proofs.Distance.{only_lengths, brought_there, differ_zero}
use Rattle.letter.specs.Letter.{values, Letter}
use Rattle.letter.proofs.Bridges.{among_from_has, has_from_among, below_append}
use Rattle.explain.specs.Explanation.{fits_at}
use Rattle.explain.specs.AnyPoints.{Off, ExplainsAt, IsLetterOf, OneExplanationAt, TrueDifferenceAt, SameValuesAt, BroughtTogetherAt}
use Rattle.explain.proofs.Subsets.{all_in_has, none_in_has, all_in_by, none_in_by, point_not_in, off_below, off_part}
use Rattle.explain.proofs.Fits.{fits_both, difference_fits}

-- From v G = H C and v K = H E, with H and C not 0, the value v goes out: G E = K C.
pub cross : (p v H G C K E : ℕ)
    → Prime p
    → (H % p ≡ 0 → ⊥)
    → (C % p ≡ 0 → ⊥)
    → (v * G) % p ≡ (H * C) % p
    → (v * K) % p ≡ (H * E) % p
    → (G * E) % p ≡ (K * C) % p
cross p v H G C K E pr some some' e e' = cancel p (v * H) (G * E) (K * C) pr (product_nonzero p v H pr value_some some) alike
  where
    value_some : v % p ≡ 0 → ⊥
    value_some none =
        product_nonzero p H C pr some some'
        (sym e ∙ zero_by p (v * G) 0 ((v / p) * G) (omega (arith, ap (λ t. t * G) (as_multiple p v none))))

    left : v * H * (G * E) ≡ v * G * (H * E)
    left = omega arith

    right : H * C * (v * K) ≡ v * H * (K * C)
    right = omega arith

    alike : (v * H * (G * E)) % p ≡ (v * H * (K * C)) % p
    alike = ap (λ t. t % p) left ∙ mul_cong p (v * G) (H * C) (H * E) (v * K) e (sym e') ∙ ap (λ t. t % p) right

-- no value is 0 modulo p at a point
pub off_nonzero : (p : ℕ) (zs ns : List ℕ) (z : ℕ) → Prime p → Below p zs → Off p zs ns → Among z zs → value p z ns % p ≡ 0 → ⊥
off_nonzero p zs ns z pr low off m e =
    point_not_in p zs ns z off m (value_zero p z ns pr (among_below p z zs low m) (off_below p zs ns off) (sym (value_mod p z ns) ∙ e))

-- a list's numbers are where its values are 0, so lists with the same values have the same numbers
member_moves : (p : ℕ) (xs ys : List ℕ) (n : ℕ)
    → Prime p
    → Below p xs
    → Below p ys
    → value p n xs ≡ value p n ys
    → has xs n ≡ true
    → has ys n ≡ true
member_moves p xs ys n pr lowx lowy e h =
    let m = among_from_has n xs h in
    has_from_among n ys
    (value_zero p n ys pr (among_below p n xs lowx m) lowy (sym e ∙ value_member p n xs m (omega (arith, pr.0))))

pub same_members : (p : ℕ) (xs ys : List ℕ)
    → Prime p
    → Below p xs
    → Below p ys
    → ((x : ℕ) → value p x xs ≡ value p x ys)
    → (n : ℕ)
    → has xs n ≡ has ys n
same_members p xs ys pr lowx lowy alike n =
    let f = member_moves p xs ys n pr lowx lowy (alike n) in
    let g = member_moves p ys xs n pr lowy lowx (sym (alike n)) in
    grind (arith, nat_tests)

-- the products of two explanations, crosswise, agree at each point
pub cross_at_points : (p : ℕ) (zs : List ℕ) (l : Letter) (here g c h e : List ℕ) (z : ℕ)
    → Prime p
    → Below p zs
    → Off p zs here
    → ExplainsAt p zs l here g c
    → ExplainsAt p zs l here h e
    → Among z zs
    → value p z (g ++ e) ≡ value p z (h ++ c)
cross_at_points p zs l here g c h e z pr low off one two m =
    let pos : 0 < p = omega (arith, pr.0) in
    let both = fits_both p zs l.at here g c h e z one.fits two.fits m in
    value_append p z g e pos
    ∙ cross p both.0 (value p z here) (value p z g) (value p z c) (value p z h) (value p z e) pr
    (off_nonzero p zs here z pr low off m)
    (off_nonzero p zs c z pr low one.come_off m)
    both.1
    both.2
    ∙ sym (value_append p z h c pos)

-- so they have the same numbers, if the points are enough
pub cross_members : (p : ℕ) (zs : List ℕ) (l : Letter) (here g c h e : List ℕ)
    → Prime p
    → Distinct zs
    → Below p zs
    → Off p zs here
    → ExplainsAt p zs l here g c
    → ExplainsAt p zs l here h e
    → length g + length c + (length h + length e) ≤ 2 * length zs + 1
    → (n : ℕ)
    → has (g ++ e) n ≡ has (h ++ c) n
cross_members p zs l here g c h e pr distinct low off one two few =
    same_members p (g ++ e) (h ++ c) pr lowx lowy
    (values_agree p (g ++ e) (h ++ c) zs pr distinct low lowx lowy
    (omega (arith, length-append g e, length-append h c, one.count, two.count))
    (omega (arith, length-append g e, one.count, two.count))
    (λ z m. cross_at_points p zs l here g c h e z pr low off one two m))
  where
    lowx : Below p (g ++ e)
    lowx = below_append p g e (off_below p zs g (off_part p zs g here off one.gone_here)) (off_below p zs e two.come_off)

    lowy : Below p (h ++ c)
    lowy = below_append p h c (off_below p zs h (off_part p zs h here off two.gone_here)) (off_below p zs c one.come_off)

pub one_explanation_at : OneExplanationAt
one_explanation_at p zs l here g c h e pr distinct low off one two few = (
  equal_by_members g h one.gone_rising two.gone_rising (λ n. (parts n).0),
  equal_by_members c e one.come_rising two.come_rising (λ n. (parts n).1),
)
  where
    parts : (n : ℕ) → (has g n ≡ has h n) × (has c n ≡ has e n)
    parts n =
        let all = cross_members p zs l here g c h e pr distinct low off one two few n in
        let left = has_append g e n in
        let right = has_append h c n in
        let in_g = all_in_has g here n one.gone_here in
        let in-h = all_in_has h here n two.gone_here in
        let not-c = none_in_has c here n one.come_not in
        let not-e = none_in_has e here n two.come_not in
        (grind (arith, nat_tests), grind (arith, nat_tests))

pub true_difference_at : TrueDifferenceAt
true_difference_at p zs l there here r s off of =
    record {
      gone_rising = only_rising here there s;
      come_rising = only_rising there here r;
      come_off = off_part p zs (only there here) there off
          (all_in_by (only there here) there (λ n h. let a = only_has there here n in grind (arith, nat_tests)));
      gone_here = all_in_by (only here there) here (λ n h. let a = only_has here there n in grind (arith, nat_tests));
      come_not = none_in_by (only there here) here (λ n h. let a = only_has there here n in grind (arith, nat_tests));
      count = omega (arith, of.counts, only_lengths there here r s);
      fits = subst (λ (vs : List ℕ). fits_at p zs vs here (only here there) (only there here) ≡ true) (sym of.evaluates) (difference_fits p zs there here r s);
    }

-- what explains and what truly differs are the same, if they are few enough together
pub explanation_true : (p : ℕ) (zs : List ℕ) (l : Letter) (there here gone come : List ℕ)
    → Prime p
    → Distinct zs
    → Below p zs
    → rising there ≡ true
    → rising here ≡ true
    → Off p zs there
    → Off p zs here
    → IsLetterOf p zs there l
    → ExplainsAt p zs l here gone come
    → length gone + length come + differ there here ≤ 2 * length zs + 1
    → (gone ≡ only here there) × (come ≡ only there here)
unfolding differ
explanation_true p zs l there here gone come pr distinct low r s off off' of one few =
    one_explanation_at p zs l here gone come (only here there) (only there here) pr distinct low off' one
    (true_difference_at p zs l there here r s off of)
    (omega arith)

pub brought_together_at : BroughtTogetherAt
unfolding differ
brought_together_at p zs d l there here pr distinct low enough r s off off' of = (found, too_many)
  where
    found : differ there here ≤ d
        → (gone come : List ℕ)
        → ExplainsAt p zs l here gone come
        → length gone + length come ≤ d
        → brought here gone come ≡ there
    found near gone come one few =
        let same = explanation_true p zs l there here gone come pr distinct low r s off off' of one (omega arith) in
        ap (λ t. brought here t come) same.0 ∙ ap (λ t. brought here (only here there) t) same.1 ∙ brought_there there here r s

    too_many : d < differ there here
        → differ there here + d ≤ 2 * length zs + 1
        → (gone come : List ℕ)
        → ExplainsAt p zs l here gone come
        → length gone + length come ≤ d
        → ⊥
    too_many far near gone come one few =
        let same = explanation_true p zs l there here gone come pr distinct low r s off off' of one (omega arith) in
        omega (arith, ap length same.0, ap length same.1)

only_self : (xs : List ℕ) → rising xs ≡ true → only xs xs ≡ []
unfolding rising has
only_self xs r = equal_by_members (only xs xs) [] (only_rising xs xs r) refl (λ n. let a = only_has xs xs n in grind (arith, nat_tests))

-- beside a list with the same values a letter is explained by nothing, and by what truly differs
pub same_values_at : SameValuesAt
unfolding differ
same_values_at p zs xs ys pr distinct low r s off off' count alike = go (dec_lt (2 * length zs + 1) (differ xs ys))
  where
    l : Letter
    l = record { many = length ys; at = values p zs ys }

    nothing : ExplainsAt p zs l xs (only xs xs) (only xs xs)
    nothing = true_difference_at p zs l xs xs r r off (record { counts = sym count; evaluates = sym alike })

    go : Dec (2 * length zs + 1 < differ xs ys) → (xs ≡ ys) ⊎ (2 * length zs + 1 < differ xs ys)
    go (yes far) = inr far
    go (no near) =
        let empty = ap length (only_self xs r) in
        let same =
        explanation_true p zs l ys xs (only xs xs) (only xs xs) pr distinct low s r off' off
        (record { counts = refl; evaluates = refl }) nothing (omega arith) in
        inl (differ_zero xs ys r s (omega (arith, ap length same.0, ap length same.1)))
