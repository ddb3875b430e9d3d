-- The list before rises, and the search gave the place.
use Rattle.std.proofs.Common.{refl}
use Rattle.sorted.proofs.Places.{removed_not, rising_removed}
use Rattle.sorted.proofs.SortedList.remove.Goals as goal

pub invariant_of-self : goal.invariant_of-self
invariant_of-self c =
    record { sorted = rising_removed c.args.n _ c.in-Ok.place _ c.args.self.now.sorted c.in-Ok.ensures c.remove.ensures.items }

pub returns-in-Err : goal.returns-in-Err
returns-in-Err c = removed_not _ _ _ c.in-Err.ensures.absent refl
