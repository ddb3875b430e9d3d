use Rattle.std.proofs.Common.{[], ◌∷◌}
use Rattle.script.specs.Requests.{way_word}
use Rattle.script.proofs.two_numbers_way.Goals as goal

pub returns-in_err-second : goal.returns-in_err-second
returns-in_err-second c =
    rw c.from_residual-in_err-second.ensures
    (λ t small e.
    let said = c.in_ok-first.ensures.1 in
    c.in_err-second.ensures t.1 (way_word t.2 ∷ []) small.1 (cc))
