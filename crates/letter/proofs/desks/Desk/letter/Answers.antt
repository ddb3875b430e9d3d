use Rattle.std.proofs.Common.{◌≤◌, length, take, ap, ◌∙◌, arith}
use Rattle.sorted.specs.Sorted.{items_of}
use Rattle.letter.specs.Letter.{letter}
use Rattle.letter.specs.Letters.{letter_of}
use Rattle.letter.specs.Desks.{desk_of}
use Rattle.letter.specs.Rows.{numbers}
use Rattle.letter.proofs.Keeping.{beginning_letter}
use Rattle.letter.proofs.desks.Desk.letter.Goals as goal

pub returns : goal.returns
unfolding desk_of letter letter_of
returns g c =
    let self = c.args.self.now in
    let k = self.nodes.len in
    let ns = items_of self.list in
    let short : c.args.m ≤ self.nodes.len = omega (arith, c.if-m-len.false, c.len.ensures) in (
      short,
      ap (λ t. record { many = t; at = numbers c.new.result.values }) (c.new.ensures.0 ∙ c.len-2.ensures)
          ∙ ap (λ t. record { many = length ns; at = numbers t }) c.new.ensures.1
          ∙ ap (λ t. record { many = length ns; at = t })
          (c.beginning-values.ensures.numbers ∙ ap (take c.args.m) self.right ∙ beginning_letter g.row.P c.args.m k ns short),
    )
