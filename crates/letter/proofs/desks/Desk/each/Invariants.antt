use Rattle.std.proofs.Common.{◌≡◌, ℕ, ◌+◌, ◌*◌, ◌%◌, ◌^◌}
use Rattle.letter.specs.Desks.{desk_of, desk_size}
use Rattle.letter.specs.Exchanges.{Makes}
use Rattle.letter.specs.Letter.{Deed}
use Rattle.letter.proofs.Exchanges.{Underway}
use Rattle.letter.proofs.desks.Desk.each.Given as goal

abbrev pub invariant-loop-n : goal.invariant-loop-n
invariant-loop-n g l =
    ((w : ℕ → Deed)
    → Makes (goal.F-post g l.deed) w
    → Underway g.row.P (desk_size l.initial.self) w l.numbers (desk_of l.initial.self).list l.n-index (desk_of l.self).list)
    × (desk_size l.self ≡ desk_size l.initial.self)
    × (l.tally.products ≡ (l.initial.tally.products + desk_size l.initial.self * l.n-index) % 2 ^ 64)
