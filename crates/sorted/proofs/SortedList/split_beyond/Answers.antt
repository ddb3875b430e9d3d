-- The numbers up to the last of a rising list are cut off at one place, and those from there on are above all of it.
use Rattle.std.proofs.Common.{leb, leb-false, length, ap, sym, ◌∙◌, arith, rules}
use Rattle.std.proofs.lemmas.List.Sorted.{IsNonDecreasingBy-from_default, IsPartitionPoint-from_clause, IsPartitionedBy-leb}
use Rattle.sorted.specs.Lists.{has}
use Rattle.sorted.proofs.Members.{has_length}
use Rattle.sorted.proofs.Places.{rising_places_le}
use Rattle.sorted.proofs.Splits.{has_beyond, last_most}
use Rattle.sorted.proofs.SortedList.split_beyond.Goals as goal

pub returns-in_default : goal.returns-in_default
returns-in_default c =
    record {
      whole = c.as_slice-numbers.ensures.value;
      above = λ n k h e.
          let l = has_length k _ e in
          let s = ap length c.as_slice.ensures.value in
          let m = c.in_default.ensures.item in
          absurd (omega (arith, l, s, m));
    }

pub returns : goal.returns
returns c =
    let xs = c.as_slice-numbers.result.now in
    let last = c.in-Some.last.now in
    let up = IsNonDecreasingBy-from_default (λ y. y) xs 0 (rising_places_le xs c.as_slice-numbers.ensures.rises) in
    let point =
    IsPartitionPoint-from_clause (λ y. leb y last) xs _ c.partition_point.ensures.partitioned (IsPartitionedBy-leb (λ y. y) xs last up)
    (λ a r q k. search rules) in
    record {
      whole = sym c.split_at.ensures.by_index.0 ∙ c.as_slice-numbers.ensures.value;
      above = λ n k h e.
          let far = has_beyond last xs _ (λ i p q. leb-false _ _ (point.1 i 0 p q)) n (ap (λ zs. has zs n) (sym c.split_at.ensures.back) ∙ h) in
          let near = last_most c.as_slice.result.now c.as_slice.ensures.rises k (ap (λ zs. has zs k) c.as_slice.ensures.value ∙ e) in
          let item = c.in-Some.ensures.item in
          omega (arith, far, near, item);
    }
