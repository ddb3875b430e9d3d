-- The numbers of the merge that are in this list alone, and those beyond the other list: what is kept of a rising list rises, and is what the other lacks.
use Rattle.std.proofs.Common.{◌≡◌, Ok, vec_items, rules, tests, ◌++◌, ap, sym, ◌∙◌}
use Rattle.std.specs.declared.alloc.AllocError.{AllocError}
use Rattle.std.proofs.lemmas.Iterator.{YieldsList-from_map, items_from_collect}
use Rattle.std.proofs.lemmas.Iterator.Consumers.{YieldsList-at, YieldsList-from_first, YieldsList-from_filter}
use Rattle.sorted.specs.Lists.{brought, only, rising}
use Rattle.sorted.specs.Merged.{left_to_merge, merged}
use Rattle.sorted.specs.Sorted.{items_of}
use Rattle.sorted.proofs.Difference.{only_rising}
use Rattle.sorted.proofs.Distance.{brought_there}
use Rattle.sorted.proofs.MergeSteps.{is_left, merged_parts}
use Rattle.sorted.proofs.Splits.{near_rising, only_split}
use Rattle.sorted.proofs.SortedList.difference.Goals as goal
use Rattle.sorted.proofs.SortedList.difference.Goals.{In_ok-extend_from_slice}

merged_left : (c : In_ok-extend_from_slice) → vec_items c.in_ok-items.items ≡ only c.split_beyond.result.0.now c.split_beyond-2.result.0.now
merged_left c =
    let xs = c.split_beyond.result.0.now in
    let ys = c.split_beyond-2.result.0.now in
    items_from_collect {E = AllocError} (Ok c.in_ok-items.items) c.in_ok-items.ensures.ran
    (YieldsList-from_map _ (λ p. p.1)
    (YieldsList-at c.map.ensures.source
    (YieldsList-from_filter _ (λ p. is_left p.0)
    (YieldsList-from_first (λ p. p) left_to_merge (merged xs ys) (ap left_to_merge c.filter.ensures.source))
    c.filter.ensures.closure (λ x r q k. search (rules, tests))))
    c.map.ensures.closure (λ x r q k. search (rules, tests)))
    ∙ (merged_parts xs ys (near_rising _ _ _ _ c.args.self.now.sorted c.split_beyond.ensures) (near_rising _ _ _ _ c.args.other.now.sorted c.split_beyond-2.ensures)).left

kept : (c : In_ok-extend_from_slice) → vec_items c.extend_from_slice.new.self ≡ only (items_of c.args.self.now) (items_of c.args.other.now)
kept c =
    c.in_ok-extend_from_slice.ensures.items
    ∙ ap (λ zs. zs ++ c.split_beyond.result.1.now) (merged_left c)
    ∙ sym (only_split _ _ _ _ _ _ c.args.self.now.sorted c.args.other.now.sorted c.split_beyond.ensures c.split_beyond-2.ensures)

pub invariant_of-result : goal.invariant_of-result
invariant_of-result c = record { sorted = ap rising (kept c) ∙ only_rising _ _ c.args.self.now.sorted }

pub returns : goal.returns
returns c =
    let items = kept (goal.at.returns c).In_ok-extend_from_slice in
    record { items = items; does = ap (brought _ _) items ∙ brought_there _ _ c.args.self.now.sorted c.args.other.now.sorted }
