-- What the letter says, and what the list counts.
use Rattle.std.proofs.lemmas.Result.{err_from_is_err_and}
use Rattle.capi.proofs.Before.{held_by, not_lent}
use Rattle.capi.proofs.deeds.lent.Goals as goal

pub returns-in_err-counted : goal.returns-in_err-counted
returns-in_err-counted c =
    let p = err_from_is_err_and c.from_residual-in_err-counted.result c.from_residual-in_err-counted.ensures.1 in
    rw (p.1, p.2)
    (not_lent c.args.note.now c.args.list.now c.in_ok-letter.letter c.in_ok-letter.ensures _ c.count.ensures _ _ c.in_err-counted.ensures)

pub returns : goal.returns
returns c =
    held_by c.args.note.now c.args.list.now c.in_ok-letter.letter c.in_ok-letter.ensures _ c.count.ensures c.in_ok-counted.ensures
