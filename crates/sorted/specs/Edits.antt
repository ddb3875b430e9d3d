-- What a search, an insertion, a removal, a difference and a count of differences give.
-- Found n xs i                    n stands at place i of xs
-- Gap n xs i                      n is not in xs, and would stand at place i
-- Hit n xs i, Miss n xs i         what a search answers over numbers of which it is not known whether they rise
-- Inserted n before after came    n was put in, if it was not there, and `came` says whether
-- Inserts n before after r        n was put in, or for want of memory nothing changed
-- Removed n before after went     n was taken out, if it was there, and `went` says whether
-- OnlyIn xs ys zs                 zs is what of xs is not in ys, and what ys wants to become xs
-- Apart xs ys d                   d numbers differ between xs and ys
use Rattle.std.specs.Prelude.{◌≡◌, ℕ, ◌+◌, ◌-◌, ◌<◌, ◌≤◌, Bool, true, false, not, List, length, Ok, Err, Result, slice_index_or}
use Rattle.std.specs.List.{insert, remove}
use Rattle.sorted.specs.Lists.{pick, has, rising, put, without, only, differ, brought}

pub record Found (n : ℕ) (xs : List ℕ) (i : ℕ) : Type 0 where
  pub inside : i < length xs
  pub there : has xs n ≡ true
  pub taken : remove xs i ≡ without n xs

pub record Gap (n : ℕ) (xs : List ℕ) (i : ℕ) : Type 0 where
  pub inside : i ≤ length xs
  pub absent : has xs n ≡ false
  pub given : insert xs i n ≡ put n xs

pub record Hit (n : ℕ) (xs : List ℕ) (i : ℕ) : Type 0 where
  pub inside : i < length xs
  pub is : slice_index_or xs i 0 ≡ n
  pub there : has xs n ≡ true
  pub found : rising xs ≡ true → Found n xs i

pub record Miss (n : ℕ) (xs : List ℕ) (i : ℕ) : Type 0 where
  pub inside : i ≤ length xs
  pub gap : rising xs ≡ true → Gap n xs i

pub record Inserted (n : ℕ) (before after : List ℕ) (came : Bool) : Type 0 where
  pub told : came ≡ not (has before n)
  pub items : after ≡ put n before
  pub same : has before n ≡ true → after ≡ before
  pub count : length after ≡ pick came (length before + 1) (length before)

abbrev pub Inserts : {E : Type 0} → ℕ → List ℕ → List ℕ → Result Bool E → Type 0
Inserts n before after (Ok came) = Inserted n before after came
Inserts n before after (Err e) = after ≡ before

pub record Removed (n : ℕ) (before after : List ℕ) (went : Bool) : Type 0 where
  pub told : went ≡ has before n
  pub items : after ≡ without n before
  pub same : has before n ≡ false → after ≡ before
  pub count : length after ≡ pick went (length before - 1) (length before)

pub record OnlyIn (xs ys zs : List ℕ) : Type 0 where
  pub items : zs ≡ only xs ys
  pub does : brought ys (only ys xs) zs ≡ xs

pub record Apart (xs ys : List ℕ) (d : ℕ) : Type 0 where
  pub count : d ≡ differ xs ys
  pub symmetric : d ≡ differ ys xs
  pub triangle : (zs : List ℕ) → rising zs ≡ true → differ xs zs ≤ d + differ ys zs
