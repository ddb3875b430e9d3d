-- The pigeonhole principle: of n numbers below m, with m < n, two are equal.
use Rattle.std.proofs.Common.{◌≡◌, ℕ, zero, suc, ◌<◌, ◌⊎◌, sym, ap, ◌∙◌, inl, inr, arith}
use native.Mathlib.Decide.{ℕ_discrete}

-- a place before n where f is v, or that there is none
seek : (n v : ℕ) (f : ℕ → ℕ)
    → ((i : ℕ) × (i < n) × (f i ≡ v)) ⊎ ((i : ℕ) → i < n → f i ≡ v → ⊥)
seek zero v f = inr (λ i small e. omega arith)
seek (suc n) v f = go (seek n v f) (ℕ_discrete (f n) v)
  where
    go : ((i : ℕ) × (i < n) × (f i ≡ v)) ⊎ ((i : ℕ) → i < n → f i ≡ v → ⊥)
        → Dec (f n ≡ v)
        → ((i : ℕ) × (i < suc n) × (f i ≡ v)) ⊎ ((i : ℕ) → i < suc n → f i ≡ v → ⊥)
    go (inl found) last = inl (found.0, omega (arith, found.1), found.2)
    go (inr none) (yes last) = inl (n, omega arith, last)
    go (inr none) (no other) = inr (λ i small e. here i small e (ℕ_discrete i n))
      where
        here : (i : ℕ) → i < suc n → f i ≡ v → Dec (i ≡ n) → ⊥
        here i small e (yes end) = other (ap f (sym end) ∙ e)
        here i small e (no before) = none i (omega arith) e

-- v in place of m
swap : (m v k : ℕ) → Dec (k ≡ m) → ℕ
swap m v k (yes e) = v
swap m v k (no e) = k

swap_below : (m v k : ℕ) (d : Dec (k ≡ m)) → v < suc m → k < suc m → (k ≡ v → ⊥) → swap m v k d < m
unfolding swap
swap_below m v k (yes e) low low' apart = omega arith
swap_below m v k (no e) low low' apart = omega arith

-- numbers other than v are not made equal
swap_equal : (m v k l : ℕ) (d : Dec (k ≡ m)) (e : Dec (l ≡ m))
    → (k ≡ v → ⊥)
    → (l ≡ v → ⊥)
    → swap m v k d ≡ swap m v l e
    → k ≡ l
unfolding swap
swap_equal m v k l (yes d) (yes e) apart apart' s = omega arith
swap_equal m v k l (yes d) (no e) apart apart' s = absurd (omega arith)
swap_equal m v k l (no d) (yes e) apart apart' s = absurd (omega arith)
swap_equal m v k l (no d) (no e) apart apart' s = s

-- If the last of the numbers occurs before, there are two. Else put it in place of m, and look among the others, below m.
pub pigeonhole : (m n : ℕ) (f : ℕ → ℕ)
    → ((i : ℕ) → i < n → f i < m)
    → m < n
    → (i : ℕ) × (j : ℕ) × (i < j) × (j < n) × (f i ≡ f j)
pigeonhole zero n f below many = absurd (omega (arith, below 0 many))
pigeonhole (suc m) zero f below many = absurd (omega arith)
pigeonhole (suc m) (suc n) f below many = go (seek n (f n) f) (pigeonhole m n)
  where
    g : ℕ → ℕ
    g i = swap m (f n) (f i) (ℕ_discrete (f i) m)

    go : ((i : ℕ) × (i < n) × (f i ≡ f n)) ⊎ ((i : ℕ) → i < n → f i ≡ f n → ⊥)
        → ((h : ℕ → ℕ)
        → ((i : ℕ) → i < n → h i < m)
        → m < n
        → (i : ℕ) × (j : ℕ) × (i < j) × (j < n) × (h i ≡ h j))
        → (i : ℕ) × (j : ℕ) × (i < j) × (j < suc n) × (f i ≡ f j)
    go (inl found) more = (found.0, n, found.1, omega arith, found.2)
    go (inr none) more = two (more g low (omega arith))
      where
        low : (i : ℕ) → i < n → g i < m
        low i small =
            swap_below m (f n) (f i) (ℕ_discrete (f i) m) (below n (omega arith)) (below i (omega arith)) (none i small)

        two : (i : ℕ) × (j : ℕ) × (i < j) × (j < n) × (g i ≡ g j)
            → (i : ℕ) × (j : ℕ) × (i < j) × (j < suc n) × (f i ≡ f j)
        two r = (
          r.0,
          r.1,
          r.2,
          omega (arith, r.3),
          swap_equal m (f n) (f r.0) (f r.1) (ℕ_discrete (f r.0) m) (ℕ_discrete (f r.1) m)
              (none r.0 (omega (arith, r.2, r.3)))
              (none r.1 r.3)
              r.4,
        )
