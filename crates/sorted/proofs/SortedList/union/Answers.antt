-- The numbers of the merge, whatever their sides, and those beyond either list; numbers put into a rising list leave it rising.
use Rattle.std.proofs.Common.{◌≡◌, Ok, vec_items, rules, tests, ◌++◌, ap, sym, ◌∙◌}
use Rattle.std.specs.declared.alloc.AllocError.{AllocError}
use Rattle.std.proofs.lemmas.Iterator.{YieldsList-from_map, items_from_collect}
use Rattle.std.proofs.lemmas.Iterator.Consumers.{YieldsList-from_first}
use Rattle.sorted.specs.Lists.{put_all, rising}
use Rattle.sorted.specs.Merged.{left_to_merge, merged}
use Rattle.sorted.specs.Sorted.{items_of}
use Rattle.sorted.proofs.MergeSteps.{merged_parts}
use Rattle.sorted.proofs.Splits.{near_rising, union_split}
use Rattle.sorted.proofs.Union.{put_all_rising}
use Rattle.sorted.proofs.SortedList.union.Goals as goal
use Rattle.sorted.proofs.SortedList.union.Goals.{In_ok-extend_from_slice-2}

merged_both : (c : In_ok-extend_from_slice-2) → vec_items c.in_ok-items.items ≡ put_all c.split_beyond.result.0.now c.split_beyond-2.result.0.now
merged_both c =
    let xs = c.split_beyond.result.0.now in
    let ys = c.split_beyond-2.result.0.now in
    items_from_collect {E = AllocError} (Ok c.in_ok-items.items) c.in_ok-items.ensures.ran
    (YieldsList-from_map _ (λ p. p.1)
    (YieldsList-from_first (λ p. p) left_to_merge (merged xs ys) (ap left_to_merge c.map.ensures.source))
    c.map.ensures.closure (λ x r q k. search (rules, tests)))
    ∙ (merged_parts xs ys (near_rising _ _ _ _ c.args.self.now.sorted c.split_beyond.ensures) (near_rising _ _ _ _ c.args.other.now.sorted c.split_beyond-2.ensures)).union

joined : (c : In_ok-extend_from_slice-2) → vec_items c.extend_from_slice-2.new.self ≡ put_all (items_of c.args.self.now) (items_of c.args.other.now)
joined c =
    c.in_ok-extend_from_slice-2.ensures.items
    ∙ ap (λ zs. zs ++ c.split_beyond-2.result.1.now) (c.in_ok-extend_from_slice.ensures.items ∙ ap (λ zs. zs ++ c.split_beyond.result.1.now) (merged_both c))
    ∙ sym (union_split _ _ _ _ _ _ c.args.self.now.sorted c.args.other.now.sorted c.split_beyond.ensures c.split_beyond-2.ensures)

pub invariant_of-result : goal.invariant_of-result
invariant_of-result c = record { sorted = ap rising (joined c) ∙ put_all_rising _ _ c.args.other.now.sorted }

pub returns : goal.returns
returns c = joined (goal.at.returns c).In_ok-extend_from_slice-2
