-- Nothing rises.
use Rattle.std.proofs.Common.{rules}
use Rattle.sorted.proofs.Members.{rising_none}
use Rattle.sorted.proofs.SortedList.new.Goals as goal

pub invariant_of-result : goal.invariant_of-result
invariant_of-result c = record { sorted = search (rules, rising_none) }
