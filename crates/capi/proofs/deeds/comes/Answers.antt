-- The list and the letter as they are written.
use Rattle.capi.proofs.After.{came_by}
use Rattle.capi.proofs.deeds.comes.Goals as goal

pub returns : goal.returns
returns c =
    came_by c.args.note.now c.args.list.now c.args.n c.in_ok-step.step c.insert_at.new.row _ _ c.unwrap.result
    c.in_ok-step.ensures c.insert_at.ensures c.count.ensures (rw c.unwrap.ensures at c.write_letter.ensures)
