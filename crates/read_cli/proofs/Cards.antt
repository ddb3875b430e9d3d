-- The list of cards, as it grows.
use Rattle.std.proofs.Common.{◌≡◌, ℕ, zero, suc, ◌+◌, ◌*◌, ◌<◌, List, ◌∷◌, ◌++◌, [], length, drop, get_or, w16, ap, ◌∙◌, add-zero, arith}
use Rattle.std.proofs.lemmas.List.{get_or-drop, get_or-take}
use Rattle.std.specs.Int.{from_le_bytes}
use Rattle.std.specs.Simd.{first_chunks}
use Rattle.read_cli.specs.Cards.{cards}

-- the bytes of the chunk at a place
byte_of : (bs e : List ℕ) (k i j : ℕ) → i < k → j < 2 → get_or (get_or (first_chunks 2 k bs) i e) j 0 ≡ get_or bs (2 * i + j) 0
byte_of bs e zero i j inside low = absurd (omega arith)
byte_of bs e (suc k) zero j inside low = let here : j ≡ 2 * 0 + j = omega arith in get_or-take 2 bs j 0 low ∙ ap (λ n. get_or bs n 0) here
byte_of bs e (suc k) (suc i) j inside low =
    let past : 2 + (2 * i + j) ≡ 2 * suc i + j = omega arith in
    byte_of (drop 2 bs) e k i j (omega arith) low ∙ get_or-drop 2 bs (2 * i + j) 0 ∙ ap (λ n. get_or bs n 0) past

pub card_of : (bs e : List ℕ) (chunks : List (List ℕ)) (k i n : ℕ) → chunks ≡ first_chunks 2 k bs → i < length chunks → length chunks ≡ k →
    n ≡ from_le_bytes w16 (get_or chunks i e) → n ≡ get_or bs (2 * i) 0 + 256 * get_or bs (2 * i + 1) 0
card_of bs e chunks k i n are inside many is =
    let low = ap (λ cs. get_or (get_or cs i e) 0 0) are ∙ byte_of bs e k i 0 (omega (arith, many)) (omega arith) in
    let high = ap (λ cs. get_or (get_or cs i e) 1 0) are ∙ byte_of bs e k i 1 (omega (arith, many)) (omega arith) in
    let first : get_or bs (2 * i + 0) 0 ≡ get_or bs (2 * i) 0 = ap (λ n. get_or bs n 0) (add-zero (2 * i)) in
    omega (arith, is, low, high, first)

next : (i : ℕ) → suc i ≡ i + 1
next i = omega arith

pub one_more
    : (bs vs ws : List ℕ) (n i x : ℕ) → vs ≡ n ∷ cards i bs
    → x ≡ get_or bs (2 * i) 0 + 256 * get_or bs (2 * i + 1) 0 → ws ≡ vs ++ x ∷ []
    → ws ≡ n ∷ cards (i + 1) bs
unfolding cards
one_more bs vs ws n i x e is f =
    f ∙ ap (λ us. us ++ x ∷ []) e ∙ ap (λ y. n ∷ (cards i bs ++ y ∷ [])) is ∙ ap (λ k. n ∷ cards k bs) (next i)
