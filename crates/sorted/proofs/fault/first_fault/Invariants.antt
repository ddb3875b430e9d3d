-- The places passed are fine, and `least` is just above the last of them.
use Rattle.std.proofs.Common.{◌≡◌, ◌+◌, ◌-◌, ◌<◌, slice_index}
use Rattle.sorted.specs.Faults.{FineTo}
use Rattle.sorted.proofs.fault.first_fault.Given as goal

abbrev pub invariant-loop-i : goal.invariant-loop-i
invariant-loop-i l = record {
  fine : FineTo l.bound l.list l.i;
  first : l.i ≡ 0 → l.least ≡ 0;
  above : 0 < l.i → l.least ≡ slice_index l.list (l.i - 1) + 1;
}
