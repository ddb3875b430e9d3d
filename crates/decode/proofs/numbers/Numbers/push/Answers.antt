use Rattle.std.proofs.Common.{refl, arith}
use Rattle.std.proofs.lemmas.List.{take_more_set}
use Rattle.decode.specs.Numbers.{listed}
use Rattle.decode.proofs.numbers.Numbers.push.Goals as goal

pub returns : goal.returns
unfolding listed
returns c =
    record { len = refl; listed = take_more_set c.args.self.at c.args.self.len c.args.x (omega arith) }
