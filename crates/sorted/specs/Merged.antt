-- Two lists gone through side by side.
-- merged xs ys              the numbers of both, the smaller of the two first ones before the other, each with its side
-- merged_from x xs on ys    x ∷ xs merged with ys, where `on` merges xs with a list
-- left_to_merge s           what is still to come of a merge
-- Split xs ys near beyond   near and then beyond are xs, and beyond has only numbers above all of ys
use Rattle.std.specs.Prelude.{◌≡◌, ℕ, ◌<◌, true, List, [], ◌∷◌, ◌++◌, map}
use Rattle.std.specs.Ordering.{nat_cmp, match_ordering}
use Rattle.sorted.specs.Lists.{has}
use Rattle.sorted.specs.declared.merge.Merge.{Merge}
use Rattle.sorted.specs.declared.merge.Side.{Side}
use Rattle.sorted.specs.declared.merge.Side.TheVariants.{Left, Both, Right}

abbrev pub merged_from : ℕ → List ℕ → (List ℕ → List (Side × ℕ)) → List ℕ → List (Side × ℕ)
merged_from x xs on [] = map (λ n. (Left, n)) (x ∷ xs)
merged_from x xs on (y ∷ ys) =
    match_ordering (nat_cmp x y) ((Left, x) ∷ on (y ∷ ys)) ((Both, x) ∷ on ys) ((Right, y) ∷ merged_from x xs on ys)

abbrev pub merged : List ℕ → List ℕ → List (Side × ℕ)
merged [] ys = map (λ n. (Right, n)) ys
merged (x ∷ xs) ys = merged_from x xs (merged xs) ys

abbrev pub left_to_merge : Merge → List (Side × ℕ)
left_to_merge s = merged s.left.now s.right.now

pub record Split (xs ys near beyond : List ℕ) : Type 0 where
  pub whole : near ++ beyond ≡ xs
  pub above : (n k : ℕ) → has beyond n ≡ true → has ys k ≡ true → k < n
