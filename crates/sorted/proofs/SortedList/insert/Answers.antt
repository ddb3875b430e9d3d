-- The list before rises, and the search gave the place.
use Rattle.std.proofs.Common.{refl}
use Rattle.sorted.proofs.Places.{inserted_there, rising_inserted}
use Rattle.sorted.proofs.SortedList.insert.Goals as goal

pub invariant_of-self : goal.invariant_of-self
invariant_of-self c =
    record { sorted = rising_inserted c.args.n _ c.in-Err.place _ _ c.args.self.now.sorted c.in-Err.ensures c.insert.ensures.items }

pub returns-in-Ok : goal.returns-in-Ok
returns-in-Ok c = inserted_there _ _ _ c.args.self.now.sorted c.in-Ok.ensures.there refl
