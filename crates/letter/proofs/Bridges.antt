-- From the tests of the sorted lists to the facts that the algebra of polynomials takes, and back.
use Rattle.std.proofs.Common.{◌≡◌, ℕ, ◌<◌, ◌≤◌, true, false, ◌⊎◌, List, [], ◌∷◌, ◌++◌, sym, refl, ap, ◌∙◌, inl, inr, arith}
use Rattle.std.proofs.lemmas.Bool.Decides.{nat_tests}
use Rattle.std.proofs.lemmas.Bool.{cases_eq}
use Rattle.field.specs.Polynomial.{Among, Below}
use Rattle.sorted.specs.Lists.{has, all_below}
use Rattle.sorted.proofs.Members.{has_first, has_later, has_below}

pub among_from_has : (z : ℕ) (ns : List ℕ) → has ns z ≡ true → Among z ns
unfolding has
among_from_has z [] h = let e : ◌≡◌ {A = ℕ} 0 1 = cc in omega arith
among_from_has z (n ∷ ns) h = go (cases_eq n z) (among_from_has z ns)
  where
    go : (n ≡ z) ⊎ (n ≡ z → ⊥) → (has ns z ≡ true → Among z ns) → (z ≡ n) ⊎ Among z ns
    go (inl e) later = inl (sym e)
    go (inr other) later = inr (later (grind (arith, nat_tests)))

pub has_from_among : (z : ℕ) (ns : List ℕ) → Among z ns → has ns z ≡ true
has_from_among z [] m = absurd m
has_from_among z (n ∷ ns) (inl e) = ap (has (n ∷ ns)) e ∙ has_first n ns
has_from_among z (n ∷ ns) (inr m) = has_later n z ns (has_from_among z ns m)

-- a number that is not found is not there
pub not_among : (z : ℕ) (ns : List ℕ) → has ns z ≡ false → Among z ns → ⊥
not_among z ns h m =
    let t = has_from_among z ns m in
    let e : ◌≡◌ {A = ℕ} 0 1 = cc in
    omega arith

pub has_not : (z : ℕ) (ns : List ℕ) → (Among z ns → ⊥) → has ns z ≡ false
has_not z ns none = let f : has ns z ≡ true → ⊥ = λ h. none (among_from_has z ns h) in grind (arith, nat_tests)

pub below_from_all : (b : ℕ) (ns : List ℕ) → all_below b ns ≡ true → Below b ns
unfolding all_below
below_from_all b [] h = tt
below_from_all b (n ∷ ns) h = (grind (arith, nat_tests), below_from_all b ns (grind (arith, nat_tests)))

pub all_from_below : (b : ℕ) (ns : List ℕ) → Below b ns → all_below b ns ≡ true
unfolding all_below
all_from_below b [] low = refl
all_from_below b (n ∷ ns) low =
    let h = all_from_below b ns low.1 in
    let l = low.0 in
    grind (arith, nat_tests)

pub below_more : (a b : ℕ) (ns : List ℕ) → a ≤ b → Below a ns → Below b ns
below_more a b [] l low = tt
below_more a b (n ∷ ns) l low = (omega (arith, low.0), below_more a b ns l low.1)

pub all_below_more : (a b : ℕ) (ns : List ℕ) → a ≤ b → all_below a ns ≡ true → all_below b ns ≡ true
all_below_more a b ns l low = all_from_below b ns (below_more a b ns l (below_from_all a ns low))

pub below_append : (b : ℕ) (xs ys : List ℕ) → Below b xs → Below b ys → Below b (xs ++ ys)
below_append b [] ys low low' = low'
below_append b (x ∷ xs) ys low low' = (low.0, below_append b xs ys low.1 low')

pub among_left : (z : ℕ) (xs ys : List ℕ) → Among z xs → Among z (xs ++ ys)
among_left z [] ys m = absurd m
among_left z (x ∷ xs) ys (inl e) = inl e
among_left z (x ∷ xs) ys (inr m) = inr (among_left z xs ys m)

pub among_right : (z : ℕ) (xs ys : List ℕ) → Among z ys → Among z (xs ++ ys)
among_right z [] ys m = m
among_right z (x ∷ xs) ys m = inr (among_right z xs ys m)

pub among_either : (z : ℕ) (xs ys : List ℕ) → Among z (xs ++ ys) → Among z xs ⊎ Among z ys
among_either z [] ys m = inr m
among_either z (x ∷ xs) ys (inl e) = inl (inl e)
among_either z (x ∷ xs) ys (inr m) = go (among_either z xs ys m)
  where
    go : Among z xs ⊎ Among z ys → ((z ≡ x) ⊎ Among z xs) ⊎ Among z ys
    go (inl l) = inl (inr l)
    go (inr r) = inr r

-- a number that stands in a list is below what all of it is below
pub all_below_middle : (b n : ℕ) (xs ys : List ℕ) → all_below b (xs ++ n ∷ ys) ≡ true → n < b
all_below_middle b n xs ys low =
    has_below b n (xs ++ n ∷ ys) (has_from_among n (xs ++ n ∷ ys) (among_right n xs (n ∷ ys) (inl refl))) low
