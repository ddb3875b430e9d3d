-- How long a row is with a number put in or taken out, and what falls out of one that keeps its length.
use Rattle.std.proofs.Common.{◌≡◌, ℕ, zero, suc, ◌<◌, ◌≤◌, List, [], ◌∷◌, length, take, ap, arith}
use Rattle.std.specs.List.{insert, remove}
use Rattle.std.proofs.lemmas.List.{take-take}
use Rattle.std.proofs.lemmas.List.Edits.{length-insert, length-remove}

pub inserted_length : (xs : List ℕ) (i n : ℕ) → i ≤ length xs → length (insert xs i n) ≡ suc (length xs)
inserted_length xs i n l = omega (arith, length-insert xs i n l)

-- what is put in before the last of k + 1 numbers pushes that one out
pub inserted_cut : (xs : List ℕ) (k i n : ℕ) → i ≤ k → k < length xs → take (suc k) (insert (take (suc k) xs) i n) ≡ insert (take k xs) i n
inserted_cut xs k zero n l there = ap (λ t. n ∷ t) (take-take k (suc k) xs (omega arith))
inserted_cut xs zero (suc i) n l there = absurd (omega arith)
inserted_cut [] (suc k) (suc i) n l there = absurd (omega arith)
inserted_cut (x ∷ xs) (suc k) (suc i) n l there = ap (λ t. x ∷ t) (inserted_cut xs k i n (omega arith) (omega arith))

pub removed_length : (xs : List ℕ) (i : ℕ) → i < length xs → suc (length (remove xs i)) ≡ length xs
removed_length xs i l = omega (arith, length-remove xs i l)
