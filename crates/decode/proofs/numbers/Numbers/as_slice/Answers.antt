use Rattle.std.proofs.Common.{refl}
use Rattle.decode.specs.Numbers.{listed}
use Rattle.decode.proofs.numbers.Numbers.as_slice.Goals as goal

pub returns : goal.returns
unfolding listed
returns c = refl
