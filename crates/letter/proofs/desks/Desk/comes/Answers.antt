use Rattle.std.proofs.Common.{◌+◌, ◌-◌, ◌%◌, ◌^◌, length, sym, refl, ap, ◌∙◌, inl, inr, arith}
use Rattle.std.proofs.lemmas.Result.{err_from_is_err_and}
use Rattle.sorted.specs.Lists.{all_below}
use Rattle.letter.specs.Letter.{points, values}
use Rattle.letter.specs.Rows.{numbers}
use Rattle.letter.specs.Desks.{desk_of}
use Rattle.letter.proofs.Keeping.{up_to_date_by, came_after, came_row, came_values, came_below, came_few}
use Rattle.letter.proofs.desks.Desk.comes.Goals as goal

pub returns-in_default : goal.returns-in_default
unfolding desk_of
returns-in_default g c =
    let self = c.args.self.now in
    record {
      done = record { same = refl; uncounted = refl; why = inl ((refl, refl), c.in_default.ensures) };
      size = refl;
      right = up_to_date_by g.row.P self.nodes.len _ _ self.list.sorted self.below self.right;
    }

pub returns-then-len-ge-CAPACITY : goal.returns-then-len-ge-CAPACITY
unfolding desk_of
returns-then-len-ge-CAPACITY g c =
    let self = c.args.self.now in
    let welcome = c.in-Some.ensures in
    record {
      done =
          record {
            same = refl;
            uncounted = refl;
            why = inr (inl ((refl, refl), (welcome.small, welcome.new, omega (arith, c.if-len-ge-CAPACITY.true, c.len.ensures))));
          };
      size = refl;
      right = up_to_date_by g.row.P self.nodes.len _ _ self.list.sorted self.below self.right;
    }

pub returns-in_err-insert : goal.returns-in_err-insert
unfolding desk_of
returns-in_err-insert g c =
    let self = c.args.self.now in
    let welcome = c.in-Some.ensures in
    let unchanged = c.in_err-insert.ensures in
    let p = err_from_is_err_and c.from_residual.result c.from_residual.ensures.1 in
    rw (p.1, p.2)
    (record {
      done =
          record {
            same = ap (λ t. record { list = t; letter_now = record { many = length t; at = numbers self.kept } }) unchanged;
            uncounted = refl;
            why = inr (inr (refl, (welcome.small, welcome.new, omega (arith, c.if-len-ge-CAPACITY.false, c.len.ensures))));
          };
      size = refl;
      right =
          up_to_date_by g.row.P self.nodes.len _ _ c.insert.new.self.sorted
          (ap (all_below (g.row.P - self.nodes.len)) unchanged ∙ self.below)
          (self.right ∙ ap (values g.row.P (points g.row.P self.nodes.len)) (sym unchanged));
    })

pub invariant_of-self-2 : goal.invariant_of-self-2
invariant_of-self-2 g c =
    let self = c.args.self.now in
    let welcome = c.in-Some.ensures in
    let put_in = c.in_ok-insert.ensures.items in
    let row = came_row g.row.P self.nodes.len c.args.n c.in-Some.residue.value _ _ _ self.spots welcome.residue c.times_each-self.ensures.numbers in record {
      room = self.room;
      spots = self.spots;
      right = came_values g.row.P self.nodes.len c.args.n _ _ _ _ welcome.new self.right put_in row;
      size = c.times_each-self.ensures.len ∙ self.size;
      below = came_below _ c.args.n _ _ welcome.small self.below put_in;
      few = came_few c.args.n 60000 _ _ (omega (arith, c.if-len-ge-CAPACITY.false, c.len.ensures)) put_in;
    }

pub returns : goal.returns
unfolding desk_of
returns g c =
    let self = c.args.self.now in
    let welcome = c.in-Some.ensures in
    let put_in = c.in_ok-insert.ensures.items in
    let row = came_row g.row.P self.nodes.len c.args.n c.in-Some.residue.value _ _ _ self.spots welcome.residue c.times_each-self.ensures.numbers in
    record {
      done =
          record {
            small = welcome.small;
            new = welcome.new;
            space = omega (arith, c.if-len-ge-CAPACITY.false, c.len.ensures);
            stepped = came_after g.row.P self.nodes.len c.args.n _ _ _ _ self.list.sorted welcome.small welcome.new put_in row;
            counted = c.times_each-self.ensures.counted ∙ ap (λ t. (c.args.tally.now.products + t) % 2 ^ 64) self.size;
          };
      size = refl;
      right =
          up_to_date_by g.row.P self.nodes.len _ _ c.insert.new.self.sorted
          (came_below _ c.args.n _ _ welcome.small self.below put_in)
          (came_values g.row.P self.nodes.len c.args.n _ _ _ _ welcome.new self.right put_in row);
    }
