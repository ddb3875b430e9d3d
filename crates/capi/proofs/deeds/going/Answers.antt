-- What the letter, the list and the search say, put together.
use Rattle.capi.proofs.Before.{going_by}
use Rattle.capi.proofs.deeds.going.Goals as goal

pub returns : goal.returns
returns c =
    going_by c.args.note.now c.args.list.now c.in_ok-letter.letter c.in_ok-letter.ensures c.args.n c.count-count.result _ c.count-count.ensures
    c.in_ok-next.next c.in-Ok.ensures c.in_ok-next.ensures.letter
