-- That the bounds are reached: by counting, and by examples that compute.
use Rattle.std.proofs.Common.{◌≡◌, ℕ, ◌+◌, ◌-◌, ◌*◌, ◌<◌, ◌≤◌, true, ◌⊎◌, List, [], ◌∷◌, length, get_or, sym, refl, ap, ◌∙◌, inl, inr, arith, lit≤}
use Rattle.std.proofs.lemmas.Bool.Decides.{nat_tests}
use Rattle.field.specs.Polynomial.{value}
use Rattle.field.proofs.Values.{value_below}
use Rattle.sorted.specs.Lists.{has, rising, all_below, put, without, only, differ, put_all, without_all, brought}
use Rattle.sorted.proofs.Difference.{only_rising, only_from}
use Rattle.sorted.proofs.Distance.{subset_length}
use Rattle.letter.specs.Letter.{points, values, letter}
use Rattle.letter.proofs.Points.{length_points}
use Rattle.letter.proofs.Pointwise.{length_values}
use Rattle.explain.specs.Explanation.{fits_at, all_in, none_in, these}
use Rattle.explain.specs.Sharp.{Alike, BoundReached, ListsAlike, LettersAmiss}
use Rattle.explain.proofs.Counting.{some_letters_alike}
use Rattle.explain.proofs.Reading.{same_letter_parity}

-- two lists differ in no more numbers than they have
pub differ_most : (xs ys : List ℕ) → rising xs ≡ true → rising ys ≡ true → differ xs ys ≤ length xs + length ys
unfolding differ
differ_most xs ys r s =
    let a = subset_length (only xs ys) xs (only_rising xs ys r) r (only_from xs ys) in
    let b = subset_length (only ys xs) ys (only_rising ys xs s) s (only_from ys xs) in
    omega arith

values_below : (p : ℕ) (zs ns : List ℕ) → 0 < p → all_below p (values p zs ns) ≡ true
unfolding values all_below
values_below p [] ns pos = refl
values_below p (z ∷ zs) ns pos = let a = value_below p z ns pos in let b = values_below p zs ns pos in grind (arith, nat_tests)

same_letters : (p m : ℕ) (xs ys : List ℕ)
    → length xs ≡ length ys
    → values p (points p m) xs ≡ values p (points p m) ys
    → letter p m xs ≡ letter p m ys
unfolding letter
same_letters p m xs ys e f = cc

-- two of the lists have the same letter; being different they differ in at least 2 m + 2 numbers, and they have no more
pub bound_reached : BoundReached
bound_reached p m lists pr inside fine apart many = go (some_letters_alike p m 0 say lists rows apart many)
  where
    say : List ℕ → List ℕ
    say ns = values p (points p m) ns

    rows : (i : ℕ) → i < length lists → (length (say (get_or lists i [])) ≡ m) × (all_below p (say (get_or lists i [])) ≡ true)
    rows i l = (
      length_values p (points p m) (get_or lists i []) ∙ length_points p m,
      values_below p (points p m) (get_or lists i []) (omega (arith, pr.0)),
    )

    alike : (xs ys : List ℕ)
        → (rising xs ≡ true) × (all_below (p - m) xs ≡ true) × (length xs ≡ m + 1)
        → (rising ys ≡ true) × (all_below (p - m) ys ≡ true) × (length ys ≡ m + 1)
        → letter p m xs ≡ letter p m ys
        → (xs ≡ ys → ⊥)
        → (xs ≡ ys) ⊎ (2 * m + 1 < differ xs ys)
        → Alike p m xs ys
    alike xs ys f g e other (inl one) = absurd (other one)
    alike xs ys f g e other (inr far) =
        record {
          xs_rising = f.0;
          ys_rising = g.0;
          xs_below = f.1;
          ys_below = g.1;
          letters = e;
          apart = omega (arith, differ_most xs ys f.0 g.0, f.2, g.2);
        }

    go : (i : ℕ) × (j : ℕ) × (i < j) × (j < length lists) × (say (get_or lists i []) ≡ say (get_or lists j []))
        → (i : ℕ) × (j : ℕ) × (i < j) × (j < length lists) × Alike p m (get_or lists i []) (get_or lists j [])
    go two =
        let first : two.0 < length lists = omega (arith, two.2, two.3) in
        let f = fine two.0 first in
        let g = fine two.1 two.3 in
        let letters = same_letters p m (get_or lists two.0 []) (get_or lists two.1 []) (f.2 ∙ sym g.2) two.4 in (
          two.0,
          two.1,
          two.2,
          two.3,
          alike (get_or lists two.0 []) (get_or lists two.1 []) f g letters
              (λ e. omega (arith, two.2, apart two.0 two.1 first two.3 e))
              (same_letter_parity p m (get_or lists two.0 []) (get_or lists two.1 []) pr inside f.0 g.0 f.1 g.1 letters),
        )

pub lists_alike : ListsAlike
unfolding has rising all_below only differ value points values letter
lists_alike = (
  record { xs_rising = refl; ys_rising = refl; xs_below = refl; ys_below = refl; letters = refl; apart = refl },
  record { xs_rising = refl; ys_rising = refl; xs_below = refl; ys_below = refl; letters = refl; apart = refl },
  record { xs_rising = refl; ys_rising = refl; xs_below = refl; ys_below = refl; letters = refl; apart = refl },
  record { xs_rising = refl; ys_rising = refl; xs_below = refl; ys_below = refl; letters = refl; apart = refl },
  record { xs_rising = refl; ys_rising = refl; xs_below = refl; ys_below = refl; letters = refl; apart = refl },
  record { xs_rising = refl; ys_rising = refl; xs_below = refl; ys_below = refl; letters = refl; apart = refl },
)

pub letters_amiss : LettersAmiss
unfolding has rising all_below put without only differ put_all without_all brought value points values letter fits_at all_in none_in
letters_amiss = (
  record {
    there_rising = refl;
    here_rising = refl;
    there_below = refl;
    here_below = refl;
    found = these (record { gone_rising = refl; come_rising = refl; small = refl; gone_here = refl; come_not = refl; count = refl; fits = refl }) (lit≤ tt);
    other = λ e. omega (arith, ap (λ (l : List ℕ). get_or l 0 0) e);
    past = refl;
  },
  record {
    there_rising = refl;
    here_rising = refl;
    there_below = refl;
    here_below = refl;
    found = these (record { gone_rising = refl; come_rising = refl; small = refl; gone_here = refl; come_not = refl; count = refl; fits = refl }) (lit≤ tt);
    other = λ e. omega (arith, ap (λ (l : List ℕ). get_or l 0 0) e);
    past = refl;
  },
  record {
    there_rising = refl;
    here_rising = refl;
    there_below = refl;
    here_below = refl;
    found = these (record { gone_rising = refl; come_rising = refl; small = refl; gone_here = refl; come_not = refl; count = refl; fits = refl }) (lit≤ tt);
    other = λ e. omega (arith, ap (λ (l : List ℕ). get_or l 0 0) e);
    past = refl;
  },
  record {
    there_rising = refl;
    here_rising = refl;
    there_below = refl;
    here_below = refl;
    found = these (record { gone_rising = refl; come_rising = refl; small = refl; gone_here = refl; come_not = refl; count = refl; fits = refl }) (lit≤ tt);
    other = λ e. omega (arith, ap (λ (l : List ℕ). get_or l 0 0) e);
    past = refl;
  },
  record {
    there_rising = refl;
    here_rising = refl;
    there_below = refl;
    here_below = refl;
    found = these (record { gone_rising = refl; come_rising = refl; small = refl; gone_here = refl; come_not = refl; count = refl; fits = refl }) (lit≤ tt);
    other = λ e. omega (arith, ap (λ (l : List ℕ). get_or l 0 0) e);
    past = refl;
  },
)
