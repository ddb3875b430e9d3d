-- The list is sound, so that its numbers are below the modulus.
use Rattle.std.proofs.Common.{◌-◌, length, ap, ◌∙◌, arith, lit<}
use Rattle.sorted.specs.Lists.{all_below}
use Rattle.letter.specs.Letter.{letter, points, values}
use Rattle.letter.specs.Letters.{letter_of}
use Rattle.letter.specs.Rows.{numbers}
use Rattle.letter.specs.Slices.{list_in}
use Rattle.letter.specs.declared.row.Row.{Row}
use Rattle.letter.proofs.Bridges.{all_below_more}
use Rattle.letter.proofs.slices.letter_of.Goals as goal

pub values_of-values-requires : goal.values_of-values-requires
values_of-values-requires g c =
    let read = c.in_ok-list.ensures in (
      lit< tt,
      (
        lit< tt,
        all_below_more (g.row.P - c.args.m) g.row.P _ (omega arith) (ap (all_below (g.row.P - c.args.m)) read.0 ∙ read.1.below),
      ),
    )

pub returns : goal.returns
unfolding letter letter_of
returns g c =
    let spots = c.in-Some.ensures in
    let read = c.in_ok-list.ensures in
    let new = c.new.ensures in
    let list = list_in c.args.here.now in
    record {
      few = spots.0;
      fewer = spots.1;
      sound = read.1;
      size = ap (λ (r : Row g.row.P). r.len) new.1 ∙ c.values_of-values.ensures.len ∙ spots.2;
      says =
          ap (λ t. record { many = t; at = numbers c.new.result.values }) (new.0 ∙ ap length read.0)
          ∙ ap (λ t. record { many = length list; at = t })
          (ap (λ (r : Row g.row.P). numbers r) new.1
          ∙ c.values_of-values.ensures.numbers
          ∙ ap (λ t. values g.row.P t c.in_ok-list.list.now) spots.3
          ∙ ap (values g.row.P (points g.row.P c.args.m)) read.0);
    }
