-- A deed that was done is told by 0.
use Rattle.std.proofs.Common.{refl}
use Rattle.capi.specs.Answers.{done}
use Rattle.capi.proofs.calls.ridgeweek_comes.Goals as goal

pub returns-in-Ok : goal.returns-in-Ok
returns-in-Ok c = record { answer = done 0 0; is = refl; holds = (refl, refl, c.in-Ok.ensures) }
