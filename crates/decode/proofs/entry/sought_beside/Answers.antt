use Rattle.std.proofs.Common.{refl, inl, inr, arith}
use Rattle.std.proofs.lemmas.Result.{err_from_is_err_and}
use Rattle.letter.specs.Desks.{desk_size}
use Rattle.decode.specs.Entry.{DueBeside}
use Rattle.decode.proofs.Answer.{differs_by, due_unread}
use Rattle.decode.proofs.entry.sought_beside.Goals as goal

pub returns-in_err-letter : goal.returns-in_err-letter
unfolding DueBeside
returns-in_err-letter g c =
    let told = err_from_is_err_and c.from_residual.result c.from_residual.ensures.1 in
    rw (told.1, told.2) (inl (c.in_err-letter.ensures.told, c.in_err-letter.ensures.fault))

pub returns-in_err-found : goal.returns-in_err-found
returns-in_err-found g c =
    let told = err_from_is_err_and c.from_residual-in_err-found.result c.from_residual-in_err-found.ensures.1 in
    let read = c.in_ok-letter.ensures in
    rw (told.1, told.2)
    (due_unread g.row.P c.args.note.now c.in_ok-letter.letter.values.len c.args.d (desk_size c.args.desk.now) c.args.out.now _
    read.sound read.size c.in_err-found.ensures)

pub returns-in_err-room_for : goal.returns-in_err-room_for
unfolding DueBeside
returns-in_err-room_for g c =
    let told = err_from_is_err_and c.from_residual-in_err-room_for.result c.from_residual-in_err-room_for.ensures.1 in
    let read = c.in_ok-letter.ensures in
    let kept = c.in_ok-found.ensures in
    let short = c.in_err-room_for.ensures in
    rw (told.1, told.2)
    (inr (inr (inr (short.0, (read.sound, omega (arith, kept.kept, read.size), omega (arith, kept.allowed, read.size), short.1)))))

pub returns : goal.returns
returns g c =
    let read = c.in_ok-letter.ensures in
    let kept = c.in_ok-found.ensures in (
      record {
        letter = read.sound;
        kept = omega (arith, kept.kept, read.size);
        allowed = omega (arith, kept.allowed, read.size);
        room = c.in_ok-room_for.ensures;
      },
      differs_by g.row.P _ _ c.args.d _ _ _ _ c.in_ok-found.found read.size read.says refl kept.says,
    )
