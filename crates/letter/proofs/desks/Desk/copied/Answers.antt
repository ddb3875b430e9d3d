use Rattle.std.proofs.Common.{length, refl, ap}
use Rattle.letter.specs.Desks.{desk_of}
use Rattle.letter.specs.Rows.{numbers}
use Rattle.letter.proofs.desks.Desk.copied.Goals as goal

pub returns : goal.returns
unfolding desk_of
returns g c = (
  ap (λ t. record { list = t; letter_now = record { many = length t; at = numbers c.args.self.now.kept } }) c.in_ok-list.ensures,
  refl,
)
