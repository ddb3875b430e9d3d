-- The reader's reply, coded; it tells at most 64 numbers.
use Rattle.decode.specs.declared.entry.Reply.TheVariants.{These, Refused}
use Rattle.capi.proofs.Telling.{reads_by}
use Rattle.capi.proofs.calls.ridgeweek_read.Goals as goal

pub returns-in-These : goal.returns-in-These
returns-in-These c =
    reads_by c.args.note.now c.args.here.now c.args.out.now c.args.d _ (These c.in-These.went c.in-These.came) _ c.code_done.ensures c.in-These.ensures

pub returns-in-Refused : goal.returns-in-Refused
returns-in-Refused c =
    reads_by c.args.note.now c.args.here.now c.args.out.now c.args.d _ (Refused c.in-Refused.refusal) _ c.code_refused.ensures c.in-Refused.ensures
