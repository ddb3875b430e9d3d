-- What the letter, the list and the search say, put together.
use Rattle.capi.proofs.Before.{comes_there}
use Rattle.capi.proofs.deeds.coming.Goals as goal

pub returns-in_default : goal.returns-in_default
returns-in_default c =
    comes_there c.args.note.now c.args.list.now c.in_ok-letter.letter c.in_ok-letter.ensures c.args.n c.count-count.result _ c.count-count.ensures c.in_default.ensures
