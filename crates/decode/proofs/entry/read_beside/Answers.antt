use Rattle.std.proofs.Common.{length, get_or}
use Rattle.letter.specs.Desks.{desk_of, desk_size}
use Rattle.letter.specs.Slices.{letter_in}
use Rattle.decode.specs.Entry.{DueBeside, SoundBeside}
use Rattle.decode.proofs.Answer.{reads_sought_beside, room_sought}
use Rattle.decode.proofs.entry.read_beside.Goals as goal

pub answer-requires : goal.answer-requires
answer-requires g c =
    let note = c.args.note.now in
    let out = c.args.out.now in
    let desk = c.args.desk.now in
    room_sought g.row.P (get_or note 0 0) c.args.d (length out) (letter_in note) (desk_of desk).list (SoundBeside g.row.P note (desk_size desk) out c.args.d)
    (DueBeside g.row.P note (desk_size desk) out c.args.d) c.sought_beside-found.result (λ sound. sound.room) c.sought_beside-found.ensures

pub returns : goal.returns
returns g c =
    reads_sought_beside g.row.P c.args.d (desk_size c.args.desk.now) c.args.note.now (desk_of c.args.desk.now).list c.args.out.now
    c.answer.new.out c.sought_beside-found.result c.answer.result c.sought_beside-found.ensures c.answer.ensures
