-- Powers of p, and that of more lists than p to the m two have the same row of m values below p.
use Rattle.std.proofs.Common.{◌≡◌, ℕ, zero, suc, ◌+◌, ◌*◌, ◌/◌, ◌%◌, ◌^◌, ◌<◌, ◌≤◌, List, [], ◌∷◌, length, get_or, sym, refl, ap, ◌∙◌, mod-eq_of_lt, mul_comm, mul-le-mul, add-one, arith}
use native.Mathlib.Nat.{add-mul-mod_self_left, mul-div_cancel_left}
use native.Mathlib.Decide.{ℕ_discrete}
use Rattle.std.proofs.Math.Nat.{pow-succ', pow-zero}
use Rattle.field.specs.Polynomial.{Below}
use Rattle.field.proofs.Pigeonhole.{pigeonhole}
use Rattle.letter.proofs.Bridges.{below_from_all}
use Rattle.explain.specs.Promise.{powers, SomeLettersAlike}

zero_only : (i : ℕ) → i ≤ 0 → i ≡ 0
zero_only i l = omega arith

pub powers_none : (p : ℕ) → powers p 0 ≡ 1
unfolding powers
powers_none p = refl

pub powers_more : (p i : ℕ) → powers p (i + 1) ≡ powers p i * p
unfolding powers
powers_more p i = ap (powers p) (add-one i) ∙ mul_comm p (powers p i)

-- with a positive base powers do not fall
pub powers_grow : (p i m : ℕ) → 0 < p → i ≤ m → powers p i ≤ powers p m
unfolding powers
powers_grow p i zero pos l = rw (zero_only i l) (omega arith)
powers_grow p i (suc m) pos l = go (ℕ_discrete i (suc m)) (powers_grow p i m pos)
  where
    go : Dec (i ≡ suc m) → (i ≤ m → powers p i ≤ powers p m) → powers p i ≤ powers p (suc m)
    go (yes last) before = rw last (omega arith)
    go (no other) before =
        let more : 1 * powers p m ≤ p * powers p m = mul-le-mul pos (omega arith) in
        omega (arith, before (omega arith))

pub powers_are : (p m : ℕ) → p ^ m ≡ powers p m
unfolding powers
powers_are p zero = pow-zero p
powers_are p (suc m) = pow-succ' p m ∙ ap (λ t. p * t) (powers_are p m)

-- a row as a number with the digits vs, the lowest first, to the base p
code : ℕ → List ℕ → ℕ
code p [] = 0
code p (v ∷ vs) = v + p * code p vs

code_below : (p : ℕ) (vs : List ℕ) → Below p vs → code p vs < powers p (length vs)
unfolding code powers
code_below p [] low = omega arith
code_below p (v ∷ vs) low =
    let more = code_below p vs low.1 in
    let room : p * suc (code p vs) ≤ p * powers p (length vs) = mul-le-mul (omega arith) (omega arith) in
    omega (arith, low.0, room)

code_first : (p v w c d : ℕ) → v < p → w < p → v + p * c ≡ w + p * d → v ≡ w
code_first p v w c d low low' e =
    sym (mod-eq_of_lt low) ∙ sym (add-mul-mod_self_left v p c) ∙ ap (λ t. t % p) e ∙ add-mul-mod_self_left w p d ∙ mod-eq_of_lt low'

code_same : (p : ℕ) (vs ws : List ℕ) → Below p vs → Below p ws → length vs ≡ length ws → code p vs ≡ code p ws → vs ≡ ws
unfolding code
code_same p [] [] low low' one e = refl
code_same p [] (w ∷ ws) low low' one e = absurd (omega arith)
code_same p (v ∷ vs) [] low low' one e = absurd (omega arith)
code_same p (v ∷ vs) (w ∷ ws) low low' one e =
    let first = code_first p v w (code p vs) (code p ws) low.0 low'.0 e in
    let rest : p * code p vs ≡ p * code p ws = omega arith in
    let pos : 0 < p = omega (arith, low.0) in
    let tail = sym (mul-div_cancel_left (code p vs) pos) ∙ ap (λ t. t / p) rest ∙ mul-div_cancel_left (code p ws) pos in
    let more = code_same p vs ws low.1 low'.1 (omega arith) tail in
    cc

pub some_letters_alike : SomeLettersAlike
some_letters_alike p m k say lists rows apart many = go (pigeonhole (powers p m) (length lists) (λ i. code p (row i)) below many)
  where
    row : ℕ → List ℕ
    row i = say (get_or lists i [])

    low : (i : ℕ) → i < length lists → Below p (row i)
    low i l = below_from_all p (row i) (rows i l).1

    below : (i : ℕ) → i < length lists → code p (row i) < powers p m
    below i l = let h = code_below p (row i) (low i l) in omega (arith, ap (powers p) (rows i l).0)

    go : (i : ℕ) × (j : ℕ) × (i < j) × (j < length lists) × (code p (row i) ≡ code p (row j))
        → (i : ℕ) × (j : ℕ) × (i < j) × (j < length lists) × (row i ≡ row j)
    go two =
        let first : two.0 < length lists = omega (arith, two.2, two.3) in (
          two.0,
          two.1,
          two.2,
          two.3,
          code_same p (row two.0) (row two.1) (low two.0 first) (low two.1 two.3)
              ((rows two.0 first).0 ∙ sym (rows two.1 two.3).0)
              two.4,
        )
