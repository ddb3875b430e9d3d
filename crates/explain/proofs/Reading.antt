-- The promises over the m largest numbers below p, from those over any points.
use Rattle.std.proofs.Common.{◌≡◌, ℕ, ◌+◌, ◌-◌, ◌*◌, ◌<◌, ◌≤◌, true, ◌⊎◌, List, length, sym, refl, ap, subst, inl, inr, arith}
use Rattle.field.specs.Prime.{Prime}
use Rattle.field.proofs.Congruence.{same}
use Rattle.sorted.specs.Lists.{rising, all_below, only, differ, brought}
use Rattle.sorted.proofs.Members.{has_below, below_from_has}
use Rattle.sorted.proofs.Difference.{only_below}
use Rattle.letter.specs.Letter.{points, Letter, letter, end, bare}
use Rattle.letter.proofs.Bridges.{has_not}
use Rattle.letter.proofs.Points.{length_points, points_distinct, points_below, points_above}
use Rattle.letter.proofs.Right.{end_right, bare_right}
use Rattle.explain.specs.Explanation.{Explains, Found, these, TooMany}
use Rattle.explain.specs.AnyPoints.{Off, ExplainsAt, IsLetterOf}
use Rattle.explain.specs.Promise.{OneExplanation, OneExplanationParity, Parity, TrueDifferenceExplains, SameLetter, SameLetterParity, BroughtTogether, BroughtTogetherParity}
use Rattle.explain.proofs.Subsets.{none_in_by}
use Rattle.explain.proofs.Uniqueness.{one_explanation_at, true_difference_at, same_values_at, brought_together_at}

-- numbers below p - m are off the points
pub below_off : (p m : ℕ) (ns : List ℕ) → all_below (p - m) ns ≡ true → Off p (points p m) ns
below_off p m ns small =
    record {
      small = below_from_has p ns (λ n h. omega (arith, has_below (p - m) n ns h small));
      off_points = none_in_by ns (points p m) (λ n h. has_not n (points p m) (points_above p m n (has_below (p - m) n ns h small)));
    }

pub explains_at_points : (p m : ℕ) (l : Letter) (here g c : List ℕ) → Explains p m l here g c → ExplainsAt p (points p m) l here g c
explains_at_points p m l here g c one =
    record {
      gone_rising = one.gone_rising;
      come_rising = one.come_rising;
      come_off = below_off p m c one.small;
      gone_here = one.gone_here;
      come_not = one.come_not;
      count = one.count;
      fits = one.fits;
    }

pub explains_from_points : (p m : ℕ) (l : Letter) (here g c : List ℕ)
    → all_below (p - m) c ≡ true
    → ExplainsAt p (points p m) l here g c
    → Explains p m l here g c
explains_from_points p m l here g c small one =
    record {
      gone_rising = one.gone_rising;
      come_rising = one.come_rising;
      small = small;
      gone_here = one.gone_here;
      come_not = one.come_not;
      count = one.count;
      fits = one.fits;
    }

pub letter_of_points : (p m : ℕ) (ns : List ℕ) → IsLetterOf p (points p m) ns (letter p m ns)
unfolding letter
letter_of_points p m ns = record { counts = refl; evaluates = refl }

pub parity : Parity
parity p m l here g c one =
    same 2 (length g + length c) (l.many + length here) (length here) (length g) (omega (arith, one.count))

pub one_explanation_parity : OneExplanationParity
one_explanation_parity p m l here g c h e pr inside small one two few =
    one_explanation_at p (points p m) l here g c h e pr (points_distinct p m inside) (points_below p m inside)
    (below_off p m here small)
    (explains_at_points p m l here g c one)
    (explains_at_points p m l here h e two)
    (omega (arith, length_points p m))

pub one_explanation : OneExplanation
one_explanation p m l here g c h e pr inside small r one two few =
    one_explanation_parity p m l here g c h e pr (omega arith) small one two (omega arith)

pub true_difference_explains : TrueDifferenceExplains
true_difference_explains p m there here r s small =
    explains_from_points p m (letter p m there) here (only here there) (only there here) (only_below (p - m) there here small)
    (true_difference_at p (points p m) (letter p m there) there here r s (below_off p m there small) (letter_of_points p m there))

pub same_letter_parity : SameLetterParity
unfolding letter
same_letter_parity p m xs ys pr inside r s small small' alike =
    let far =
    same_values_at p (points p m) xs ys pr (points_distinct p m inside) (points_below p m inside) r s
    (below_off p m xs small)
    (below_off p m ys small')
    (ap (λ (l : Letter). l.many) alike)
    (ap (λ (l : Letter). l.at) alike) in
    subst (λ (k : ℕ). (xs ≡ ys) ⊎ (2 * k + 1 < differ xs ys)) (length_points p m) far

pub same_letter : SameLetter
same_letter p m xs ys pr inside r s small small' alike = go (same_letter_parity p m xs ys pr (omega arith) r s small small' alike)
  where
    go : (xs ≡ ys) ⊎ (2 * m + 1 < differ xs ys) → (xs ≡ ys) ⊎ (2 * m < differ xs ys)
    go (inl e) = inl e
    go (inr far) = inr (omega arith)

-- Reading the letter of one list beside another: both rising, with numbers below p - m.
module _ (p m d : ℕ) (there here : List ℕ)
    (pr : Prime p) (enough : d ≤ m) (inside : m ≤ p)
    (r : rising there ≡ true) (s : rising here ≡ true)
    (small : all_below (p - m) there ≡ true) (small' : all_below (p - m) here ≡ true) where
  both : (differ there here ≤ d →
      (gone come : List ℕ) → ExplainsAt p (points p m) (letter p m there) here gone come → length gone + length come ≤ d → brought here gone come ≡ there)
      × (d < differ there here → differ there here + d ≤ 2 * length (points p m) + 1 →
      (gone come : List ℕ) → ExplainsAt p (points p m) (letter p m there) here gone come → length gone + length come ≤ d → ⊥)
  both =
      brought_together_at p (points p m) d (letter p m there) there here pr (points_distinct p m inside) (points_below p m inside)
      (omega (arith, length_points p m)) r s
      (below_off p m there small)
      (below_off p m here small')
      (letter_of_points p m there)

  pub read_found : differ there here ≤ d → Found p m d (letter p m there) here (only here there) (only there here)
  unfolding differ
  read_found near = these (true_difference_explains p m there here r s small) (omega arith)

  pub read_one : differ there here ≤ d → (gone come : List ℕ) → Found p m d (letter p m there) here gone come → brought here gone come ≡ there
  read_one near gone come (these one few) = both.0 near gone come (explains_at_points p m (letter p m there) here gone come one) few

  pub read_too_many : d < differ there here → differ there here + d ≤ 2 * m + 1 → TooMany p m d (letter p m there) here
  unfolding TooMany
  read_too_many far near gone come one few =
      both.1 far (omega (arith, length_points p m)) gone come (explains_at_points p m (letter p m there) here gone come one) few

pub brought_together_parity : BroughtTogetherParity
brought_together_parity p m d ds es pr enough inside =
    let there = end p m (bare p m) ds in
    let here = end p m (bare p m) es in
    let a = end_right p m (bare p m) ds pr inside (bare_right p m) in
    let b = end_right p m (bare p m) es pr inside (bare_right p m) in
    subst
    (λ (l : Letter).
    (differ there.list here.list ≤ d →
    Found p m d l here.list (only here.list there.list) (only there.list here.list)
    × ((gone come : List ℕ) → Found p m d l here.list gone come → brought here.list gone come ≡ there.list))
    × (d < differ there.list here.list → differ there.list here.list + d ≤ 2 * m + 1 → TooMany p m d l here.list))
    (sym a.letter_is) (
      λ near. (
        read_found p m d there.list here.list pr enough inside a.in_order b.in_order a.small b.small near,
        read_one p m d there.list here.list pr enough inside a.in_order b.in_order a.small b.small near,
      ),
      read_too_many p m d there.list here.list pr enough inside a.in_order b.in_order a.small b.small,
    )

pub brought_together : BroughtTogether
brought_together p m d ds es pr enough inside =
    let all = brought_together_parity p m d ds es pr enough (omega arith) in
    (all.0, λ far near. all.1 far (omega arith))
