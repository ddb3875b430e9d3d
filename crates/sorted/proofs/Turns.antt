-- One turn, and the end, of a walk through two rising lists by the smaller of their first numbers: what differs in what is left of both.
use Rattle.std.proofs.Common.{◌≡◌, ℕ, ◌+◌, ◌-◌, ◌<◌, ◌≤◌, true, List, ◌∷◌, length, get_or, drop, sym, ap, arith}
use Rattle.std.proofs.lemmas.List.{drop_more, drop_all, length-drop}
use Rattle.sorted.specs.Lists.{rising, only, differ}
use Rattle.sorted.proofs.Members.{rising_drop}
use Rattle.sorted.proofs.Difference.{only_nil}
use Rattle.sorted.proofs.MergeSteps.{only_less, only_equal, only_greater}

-- what is alone in one list, at places i of xs and j of ys
module _ (xs ys : List ℕ) (r : rising xs ≡ true) (s : rising ys ≡ true) (i j : ℕ) (k : i < length xs) (l : j < length ys) where
  x_rises : rising (get_or xs i 0 ∷ drop (i + 1) xs) ≡ true
  x_rises = rw (← drop_more xs i 0 k) (rising_drop i xs r)

  y_rises : rising (get_or ys j 0 ∷ drop (j + 1) ys) ≡ true
  y_rises = rw (← drop_more ys j 0 l) (rising_drop j ys s)

  pub only_at_less : get_or xs i 0 < get_or ys j 0 → only (drop i xs) (drop j ys) ≡ get_or xs i 0 ∷ only (drop (i + 1) xs) (drop j ys)
  only_at_less h = rw (drop_more xs i 0 k, drop_more ys j 0 l) (only_less (get_or xs i 0) (get_or ys j 0) (drop (i + 1) xs) (drop (j + 1) ys) y_rises h)

  pub only_at_equal : get_or xs i 0 ≡ get_or ys j 0 → only (drop i xs) (drop j ys) ≡ only (drop (i + 1) xs) (drop (j + 1) ys)
  only_at_equal h = rw (drop_more xs i 0 k, drop_more ys j 0 l) (only_equal (get_or xs i 0) (get_or ys j 0) (drop (i + 1) xs) (drop (j + 1) ys) x_rises h)

  pub only_at_greater : get_or ys j 0 < get_or xs i 0 → only (drop i xs) (drop j ys) ≡ only (drop i xs) (drop (j + 1) ys)
  only_at_greater h = rw (drop_more xs i 0 k, drop_more ys j 0 l) (only_greater (get_or xs i 0) (get_or ys j 0) (drop (i + 1) xs) (drop (j + 1) ys) x_rises h)

-- how many differ in what is left
module _ (xs ys : List ℕ) (r : rising xs ≡ true) (s : rising ys ≡ true) (i j : ℕ) (k : i < length xs) (l : j < length ys) where
  pub differ_at_less : get_or xs i 0 < get_or ys j 0 → differ (drop i xs) (drop j ys) ≡ differ (drop (i + 1) xs) (drop j ys) + 1
  unfolding differ
  differ_at_less h =
      let a = ap length (only_at_less xs ys r s i j k l h) in
      let b = ap length (only_at_greater ys xs s r j i l k h) in
      omega arith

  pub differ_at_equal : get_or xs i 0 ≡ get_or ys j 0 → differ (drop i xs) (drop j ys) ≡ differ (drop (i + 1) xs) (drop (j + 1) ys)
  unfolding differ
  differ_at_equal h =
      let a = ap length (only_at_equal xs ys r s i j k l h) in
      let b = ap length (only_at_equal ys xs s r j i l k (sym h)) in
      omega arith

  pub differ_at_greater : get_or ys j 0 < get_or xs i 0 → differ (drop i xs) (drop j ys) ≡ differ (drop i xs) (drop (j + 1) ys) + 1
  unfolding differ
  differ_at_greater h =
      let a = ap length (only_at_greater xs ys r s i j k l h) in
      let b = ap length (only_at_less ys xs s r j i l k h) in
      omega arith

-- where one list is at its end
module _ (xs ys : List ℕ) (i j : ℕ) where
  pub differ_at_left_end : length xs ≤ i → differ (drop i xs) (drop j ys) ≡ (length xs - i) + (length ys - j)
  unfolding differ only
  differ_at_left_end h =
      let a = ap length (only_nil (drop j ys)) in
      let b = length-drop j ys in
      rw (drop_all i xs h) (omega arith)

  pub differ_at_right_end : length ys ≤ j → differ (drop i xs) (drop j ys) ≡ (length xs - i) + (length ys - j)
  unfolding differ only
  differ_at_right_end h =
      let a = ap length (only_nil (drop i xs)) in
      let b = length-drop i xs in
      rw (drop_all j ys h) (omega arith)
