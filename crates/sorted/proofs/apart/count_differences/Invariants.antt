-- The count, with what differs in what is left of both, is how many differ.
use Rattle.std.proofs.Common.{◌≡◌, ◌+◌, ◌-◌, ◌≤◌, length, drop}
use Rattle.sorted.specs.Lists.{differ}
use Rattle.sorted.proofs.apart.count_differences.Given as goal

abbrev pub invariant-loop-i : goal.invariant-loop-i
invariant-loop-i l =
    (l.i ≤ length l.a) × (l.j ≤ length l.b) × (l.count ≤ l.i + l.j)
    × (l.count + differ (drop l.i l.a) (drop l.j l.b) ≡ differ l.a l.b)

abbrev pub decreases-loop-i : goal.decreases-loop-i
decreases-loop-i l = (length l.a - l.i) + (length l.b - l.j)
