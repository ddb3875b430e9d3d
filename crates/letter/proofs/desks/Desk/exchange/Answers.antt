use Rattle.std.proofs.Common.{refl, ap, ◌∙◌, inl}
use Rattle.std.proofs.lemmas.Result.{err_from_is_err_and}
use Rattle.letter.specs.Desks.{deed_of, desk_of, desk_size}
use Rattle.letter.specs.Letter.{comes, goes}
use Rattle.letter.proofs.Exchanges.{stopped_going, stopped_coming, exchanged}
use Rattle.letter.proofs.Keeping.{up_to_date}
use Rattle.letter.proofs.desks.Desk.exchange.Goals as goal

pub returns-in_err-copy : goal.returns-in_err-copy
returns-in_err-copy g c =
    let p = err_from_is_err_and c.from_residual.result c.from_residual.ensures.1 in
    rw (p.1, p.2)
    (record {
      done = record { same = refl; uncounted = refl; why = inl refl };
      size = refl;
      right = up_to_date c.args.self.now;
    })

pub returns-in_err-each : goal.returns-in_err-each
returns-in_err-each g c =
    let p = err_from_is_err_and c.from_residual-in_err-each.result c.from_residual-in_err-each.ensures.1 in
    let copy = c.in_ok-copy.ensures in
    rw (p.1, p.2)
    (record {
      done =
          stopped_going g.row.P (desk_size c.args.self.now) (desk_size c.in_ok-copy.copy) c.args.gone.now c.args.come.now
          (desk_of c.args.self.now) (desk_of c.in_ok-copy.copy) c.args.tally.now.products _ copy.0 copy.1
          (c.in_err-each.ensures.done goes (λ n x made. ap deed_of made));
      size = refl;
      right = up_to_date c.args.self.now;
    })

pub returns-in_err-each-2 : goal.returns-in_err-each-2
returns-in_err-each-2 g c =
    let p = err_from_is_err_and c.from_residual-in_err-each-2.result c.from_residual-in_err-each-2.ensures.1 in
    let copy = c.in_ok-copy.ensures in
    rw (p.1, p.2)
    (record {
      done =
          stopped_coming g.row.P (desk_size c.args.self.now) (desk_size c.in_ok-copy.copy) (desk_size c.each.new.self) c.args.gone.now c.args.come.now
          (desk_of c.each.new.self).list (desk_of c.args.self.now) (desk_of c.in_ok-copy.copy) c.args.tally.now.products
          c.args.tally.now.products c.each.new.tally.products _ copy.0 copy.1 (c.each.ensures.size ∙ copy.1)
          (c.in_ok-each.ensures.done goes (λ n x made. ap deed_of made)) (c.in_err-each-2.ensures.done comes (λ n x made. ap deed_of made));
      size = refl;
      right = up_to_date c.args.self.now;
    })

pub returns : goal.returns
returns g c =
    let copy = c.in_ok-copy.ensures in
    record {
      done =
          exchanged g.row.P (desk_size c.args.self.now) (desk_size c.in_ok-copy.copy) (desk_size c.each.new.self) c.args.gone.now c.args.come.now
          (desk_of c.each.new.self).list (desk_of c.args.self.now) (desk_of c.in_ok-copy.copy) (desk_of c.each-2.new.self)
          c.args.tally.now.products c.each.new.tally.products c.each-2.new.tally.products
          copy.0 copy.1 (c.each.ensures.size ∙ copy.1) (up_to_date c.args.self.now).in_order
          (c.in_ok-each.ensures.done goes (λ n x made. ap deed_of made)) (c.in_ok-each-2.ensures.done comes (λ n x made. ap deed_of made));
      size = c.each-2.ensures.size ∙ c.each.ensures.size ∙ copy.1;
      right = up_to_date c.each-2.new.self;
    }
