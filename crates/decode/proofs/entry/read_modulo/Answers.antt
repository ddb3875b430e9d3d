use Rattle.std.proofs.Common.{length, get_or}
use Rattle.letter.specs.Slices.{letter_in, list_in}
use Rattle.decode.specs.Entry.{Due, Sound}
use Rattle.decode.proofs.Answer.{reads_sought, room_sought}
use Rattle.decode.proofs.entry.read_modulo.Goals as goal

pub answer-requires : goal.answer-requires
answer-requires g c =
    let note = c.args.note.now in
    let here = c.args.here.now in
    let out = c.args.out.now in
    room_sought g.row.P (get_or note 0 0) c.args.d (length out) (letter_in note) (list_in here) (Sound g.row.P note here out c.args.d)
    (Due g.row.P note here out c.args.d) c.sought-found.result (λ sound. sound.room) c.sought-found.ensures

pub returns : goal.returns
returns g c =
    reads_sought g.row.P c.args.d c.args.note.now c.args.here.now c.args.out.now c.answer.new.out c.sought-found.result c.answer.result
    c.sought-found.ensures c.answer.ensures
