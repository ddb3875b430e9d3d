use Rattle.std.proofs.Common.{◌≡◌, ℕ, ◌+◌, ◌%◌, ◌^◌, sym, ap, ◌∙◌, mul-one, arith}
use Rattle.std.proofs.lemmas.Result.{err_from_is_err_and}
use Rattle.letter.specs.Desks.{desk_of, desk_size}
use Rattle.letter.proofs.Exchanges.{deed_done, deed_stops, underway_more, underway_stop, underway_done, tallied_more}
use Rattle.letter.proofs.desks.Desk.each.Goals as goal

pub loop-n-preserved : goal.loop-n-preserved
loop-n-preserved g c =
    let m = desk_size c.args.self.now in
    let inv = c.loop-n.invariant in
    let held = (desk_of c.loop-n.self).list in
    let done = deed_done g.row.P (desk_size c.loop-n.self) c.deed.result _ _ _ _ c.in_ok-does.ensures.done in
    let size : desk_size c.loop-n.self ≡ desk_size c.args.self.now = inv.1 in
    let at : ℕ = c.loop-n.n-index in (
      λ w gives.
          underway_more g.row.P m (desk_size c.loop-n.self) w c.args.numbers.now (desk_of c.args.self.now).list at _ held _ _ _
          (inv.0 w gives) (omega arith) size (gives _ _ c.deed.ensures) done,
      c.does.ensures.size ∙ size,
      tallied_more c.args.tally.now.products c.loop-n.tally.products c.does.new.tally.products m at 1 inv.2
          (done.counted ∙ ap (λ t. (c.loop-n.tally.products + t) % 2 ^ 64) (size ∙ sym (mul-one m))),
    )

pub returns-in_err-does : goal.returns-in_err-does
returns-in_err-does g c =
    let p = err_from_is_err_and c.from_residual.result c.from_residual.ensures.1 in
    let inv = c.loop-n.invariant in
    let held = (desk_of c.loop-n.self).list in
    let stops = deed_stops g.row.P (desk_size c.loop-n.self) c.deed.result _ _ _ _ _ c.in_err-does.ensures.done in
    rw (p.1, p.2)
    (record {
      done = λ w gives.
          underway_stop g.row.P (desk_size c.args.self.now) (desk_size c.loop-n.self) w c.args.numbers.now
          (desk_of c.args.self.now).list c.loop-n.n-index _ held _ (inv.0 w gives) (omega arith) inv.1
          (gives _ _ c.deed.ensures) stops;
      size = c.does.ensures.size ∙ inv.1;
    })

pub returns : goal.returns
returns g c =
    let inv = c.loop-n.invariant in
    record {
      done = λ w gives.
          underway_done g.row.P (desk_size c.args.self.now) w c.args.numbers.now (desk_of c.args.self.now).list c.loop-n.n-index
          (desk_of c.loop-n.self).list c.args.tally.now.products c.loop-n.tally.products (inv.0 w gives) (omega arith) inv.2;
      size = inv.1;
    }
