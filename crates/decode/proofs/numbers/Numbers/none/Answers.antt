use Rattle.std.proofs.Common.{refl}
use Rattle.decode.specs.Numbers.{listed}
use Rattle.decode.proofs.numbers.Numbers.none.Goals as goal

pub returns : goal.returns
unfolding listed
returns c = record { len = refl; listed = refl }
