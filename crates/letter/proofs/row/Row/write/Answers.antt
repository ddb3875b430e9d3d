-- Each turn writes one number more.
use Rattle.std.proofs.Common.{refl, ◌∙◌, arith}
use Rattle.letter.specs.Rows.{numbers}
use Rattle.letter.proofs.Rows.{length_numbers, shown_length, shown_entry}
use Rattle.letter.proofs.Words.{written_more, written_all}
use Rattle.letter.proofs.row.Row.write.Goals as goal

pub loop-i-init : goal.loop-i-init
loop-i-init g c = (shown_length c.args.self c.as_slice-x-items.result.now c.as_slice-x-items.ensures, refl)

pub loop-i-preserved : goal.loop-i-preserved
loop-i-preserved g c =
    let shown = c.as_slice-x-items.result.now in (
      c.loop-i.invariant.0,
      written_more (numbers c.args.self) c.args.out.now c.loop-i.out c.loop-i.i c.number.result
          c.loop-i.invariant.1 (omega arith) (omega (arith, length_numbers c.args.self))
          (c.number.ensures ∙ shown_entry c.args.self shown c.loop-i.i c.x-item.result c.as_slice-x-items.ensures (omega arith) c.x-item.is),
    )

pub returns : goal.returns
returns g c =
    written_all (numbers c.args.self) c.args.out.now c.loop-i.out c.loop-i.i c.args.self.len
    c.loop-i.invariant.1 (omega arith) (length_numbers c.args.self)
