-- The points' laws together, that order does not matter, and values worked out.
use Rattle.std.proofs.Common.{◌%◌, sym, refl, ap, ◌∙◌, mul_comm}
use Rattle.field.specs.Polynomial.{value}
use Rattle.field.proofs.Values.{value_append}
use Rattle.letter.specs.Letter.{points, values}
use Rattle.letter.specs.Theorems.{OrderFree, PointsApart, Worked}
use Rattle.letter.proofs.Points.{points_distinct, points_below, points_above}

pub order_free : OrderFree
order_free p z xs ys some =
    value_append p z xs ys some
    ∙ ap (λ t. t % p) (mul_comm (value p z xs) (value p z ys))
    ∙ sym (value_append p z ys xs some)

pub points_lie_apart : PointsApart
points_lie_apart p m l = (points_distinct p m l, points_below p m l, points_above p m)

pub worked : Worked
unfolding points values value
worked = (refl, refl, refl, refl, refl, refl)
