use Rattle.std.proofs.Common.{◌+◌, ◌%◌, ◌^◌, sym, refl, ap, ◌∙◌, lit<}
use Rattle.letter.specs.Desks.{desk_of}
use Rattle.letter.proofs.Keeping.{up_to_date_by, went_after, went_row, went_values, went_below, went_few, went_off}
use Rattle.letter.proofs.desks.Desk.goes.Goals as goal

pub returns-in_default : goal.returns-in_default
unfolding desk_of
returns-in_default g c =
    let self = c.args.self.now in
    record {
      done = record { same = refl; uncounted = refl; missing = c.in_default.ensures; told = (refl, refl) };
      size = refl;
      right = up_to_date_by g.row.P self.nodes.len _ _ self.list.sorted self.below self.right;
    }

pub undo_each-self-requires : goal.undo_each-self-requires
undo_each-self-requires g c =
    let self = c.args.self.now in
    let there = c.in-Some.ensures in (
      lit< tt,
      (
        lit< tt,
        (
          sym self.size,
          went_off g.row.P self.nodes.len c.args.n c.in-Some.residue.value _ _ self.below there.0 self.spots there.1,
        ),
      ),
    )

pub invariant_of-self : goal.invariant_of-self
invariant_of-self g c =
    let self = c.args.self.now in
    let there = c.in-Some.ensures in
    let taken = c.remove.ensures.items in
    let row = went_row g.row.P self.nodes.len c.args.n c.in-Some.residue.value _ _ _ self.spots there.1 c.undo_each-self.ensures.numbers in record {
      room = self.room;
      spots = self.spots;
      right = went_values g.row.P self.nodes.len c.args.n _ _ _ _ self.modulus.prime self.room self.below there.0 self.right taken row;
      size = c.undo_each-self.ensures.len ∙ self.size;
      below = went_below _ c.args.n _ _ self.below taken;
      few = went_few c.args.n 60000 _ _ self.few there.0 taken;
    }

pub returns : goal.returns
unfolding desk_of
returns g c =
    let self = c.args.self.now in
    let there = c.in-Some.ensures in
    let taken = c.remove.ensures.items in
    let row = went_row g.row.P self.nodes.len c.args.n c.in-Some.residue.value _ _ _ self.spots there.1 c.undo_each-self.ensures.numbers in
    record {
      done =
          record {
            there = there.0;
            stepped = went_after g.row.P self.nodes.len c.args.n _ _ _ _ there.0 taken row;
            counted = c.undo_each-self.ensures.counted ∙ ap (λ t. (c.args.tally.now.products + t) % 2 ^ 64) self.size;
          };
      size = refl;
      right =
          up_to_date_by g.row.P self.nodes.len _ _ c.remove.new.self.sorted
          (went_below _ c.args.n _ _ self.below taken)
          (went_values g.row.P self.nodes.len c.args.n _ _ _ _ self.modulus.prime self.room self.below there.0 self.right taken row);
    }
