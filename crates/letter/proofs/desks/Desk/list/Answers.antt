use Rattle.letter.specs.Desks.{desk_of}
use Rattle.letter.proofs.desks.Desk.list.Goals as goal

pub returns : goal.returns
unfolding desk_of
returns g c = c.as_slice.ensures.value
