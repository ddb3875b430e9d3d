use Rattle.std.proofs.Common.{sym}
use Rattle.std.proofs.lemmas.List.{take-map}
use Rattle.field.specs.Plain.{plain}
use Rattle.letter.specs.Rows.{numbers}
use Rattle.letter.proofs.row.Row.as_slice.Goals as goal

pub returns : goal.returns
unfolding numbers plain
returns g c = sym (take-map (λ x. x.value) c.args.self.now.len c.args.self.now.at)
