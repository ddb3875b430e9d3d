-- What making a letter and writing it give.
use Rattle.capi.proofs.Telling.{written}
use Rattle.capi.proofs.calls.write.Goals as goal

pub returns : goal.returns
returns c =
    written c.args.list.now c.args.out.now c.args.m c.in_ok-letter.letter _ c.write_letter.result c.in_ok-letter.ensures c.write_letter.ensures
