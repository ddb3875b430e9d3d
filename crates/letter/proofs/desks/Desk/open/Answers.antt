use Rattle.std.proofs.Common.{sym, ap, ◌∙◌, arith}
use Rattle.letter.specs.Letter.{points, values}
use Rattle.letter.specs.Desks.{desk_of}
use Rattle.letter.proofs.Keeping.{empty_below, empty_few, bare_by}
use Rattle.letter.proofs.Points.{length_points}
use Rattle.letter.proofs.desks.Desk.open.Goals as goal

pub invariant_of-result : goal.invariant_of-result
invariant_of-result g c =
    let p = g.row.P in
    let nodes = c.in-Some.nodes in
    let made = c.in-Some.ensures in
    let none = c.new-list.ensures in record {
      room = omega (arith, made.1, made.2);
      spots = made.3 ∙ ap (points p) (sym made.2);
      right = c.ones-kept.ensures.numbers (points p nodes.len) (length_points p nodes.len ∙ sym c.len.ensures)
          ∙ ap (values p (points p nodes.len)) (sym none);
      size = c.ones-kept.ensures.len ∙ c.len.ensures;
      below = empty_below _ _ none;
      few = empty_few _ none;
    }

pub returns : goal.returns
unfolding desk_of
returns g c =
    let p = g.row.P in
    let made = c.in-Some.ensures in
    record {
      few = made.0;
      room = made.1;
      size = made.2;
      empty =
          bare_by p c.args.m _ _ c.new-list.ensures
          (c.ones-kept.ensures.numbers (points p c.args.m) (length_points p c.args.m ∙ sym made.2 ∙ sym c.len.ensures));
    }
