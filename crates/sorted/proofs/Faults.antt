-- Places that are fine, one by one, and the list they make.
use Rattle.std.proofs.Common.{◌≡◌, ℕ, zero, suc, ◌+◌, ◌-◌, ◌<◌, ◌≤◌, Bool, true, false, ◌&&◌, List, [], ◌∷◌, length, refl, arith, below_more}
use Rattle.std.proofs.lemmas.Bool.Decides.{nat_tests}
use Rattle.sorted.specs.Lists.{rising, all_below}
use Rattle.sorted.specs.Faults.{Fine, FineTo, FirstFault, Faultless}

pub fine_none : (b : ℕ) (xs : List ℕ) → FineTo b xs 0
unfolding FineTo
fine_none b xs k l = absurd (omega arith)

pub fine_more : (b : ℕ) (xs : List ℕ) (i : ℕ) → FineTo b xs i → Fine b xs i → FineTo b xs (i + 1)
unfolding FineTo
fine_more b xs i f h = below_more (Fine b xs) i f h

-- the rest of a list is fine where the list is
fine_rest : (b x : ℕ) (xs : List ℕ) (k : ℕ) → Fine b (x ∷ xs) (suc k) → Fine b xs k
fine_rest b x xs zero f = (f.0, λ l. absurd (omega arith))
fine_rest b x xs (suc k) f = (
  f.0,
  λ l.
      let up : suc (suc k) - 1 ≡ suc k = omega arith in
      let down : suc k - 1 ≡ k = omega arith in
      rw down (rw up at (f.1 (omega arith))),
)

-- and the list where the rest is, past the rest's first place
fine_past : (b x : ℕ) (xs : List ℕ) (k : ℕ) → Fine b xs (suc k) → Fine b (x ∷ xs) (suc (suc k))
fine_past b x xs k f = (
  f.0,
  λ l.
      let up : suc (suc k) - 1 ≡ suc k = omega arith in
      let down : suc k - 1 ≡ k = omega arith in
      rw up (rw down at (f.1 (omega arith))),
)

fine_rising : (b : ℕ) (xs : List ℕ) → ((k : ℕ) → k < length xs → Fine b xs k) → rising xs ≡ true
unfolding rising
fine_rising b [] f = refl
fine_rising b (x ∷ []) f = refl
fine_rising b (x ∷ y ∷ ys) f =
    let l = (f 1 (omega arith)).1 (omega arith) in
    let r = fine_rising b (y ∷ ys) (λ k h. fine_rest b x (y ∷ ys) k (f (suc k) (omega arith))) in
    grind (arith, nat_tests)

fine_below : (b : ℕ) (xs : List ℕ) → ((k : ℕ) → k < length xs → Fine b xs k) → all_below b xs ≡ true
unfolding all_below
fine_below b [] f = refl
fine_below b (x ∷ xs) f =
    let l = (f 0 (omega arith)).0 in
    let r = fine_below b xs (λ k h. fine_rest b x xs k (f (suc k) (omega arith))) in
    grind (arith, nat_tests)

pub faultless : (b : ℕ) (xs : List ℕ) (n : ℕ) → length xs ≤ n → FineTo b xs n → Faultless b xs
unfolding FineTo
faultless b xs n l f = record { rises = fine_rising b xs each; below = fine_below b xs each; each = each }
  where
    each : (k : ℕ) → k < length xs → Fine b xs k
    each k h = f k (omega arith)

-- each place of a list that rises and is below b is fine
pub fine_at : (b : ℕ) (xs : List ℕ) (k : ℕ) → k < length xs → rising xs ≡ true → all_below b xs ≡ true → Fine b xs k
unfolding rising all_below
fine_at b [] k l r h = absurd (omega arith)
fine_at b (x ∷ xs) zero l r h = (grind (arith, nat_tests), λ p. absurd (omega arith))
fine_at b (x ∷ []) (suc k) l r h = absurd (omega arith)
fine_at b (x ∷ y ∷ ys) (suc zero) l r h = (grind (arith, nat_tests), λ p. grind (arith, nat_tests))
fine_at b (x ∷ y ∷ ys) (suc (suc k)) l r h =
    fine_past b x (y ∷ ys) k (fine_at b (y ∷ ys) (suc k) (omega arith) (grind (arith, nat_tests)) (grind (arith, nat_tests)))

pub first_fault :
    (b : ℕ) (xs : List ℕ) (i : ℕ) → i < length xs → FineTo b xs i → (Fine b xs i → ⊥) → FirstFault b xs i
first_fault b xs i l f h =
    record { inside = l; before = f; here = h; unsound = unsound (rising xs) (all_below b xs) refl refl }
  where
    unsound : (p q : Bool) → rising xs ≡ p → all_below b xs ≡ q → (rising xs && all_below b xs) ≡ false
    unsound true true r s = absurd (h (fine_at b xs i l r s))
    unsound true false r s = grind (arith, nat_tests)
    unsound false q r s = grind (arith, nat_tests)
