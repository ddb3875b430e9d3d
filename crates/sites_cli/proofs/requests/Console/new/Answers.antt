use Rattle.std.proofs.Common.{refl}
use Rattle.sites_cli.specs.Told.{lists_in}
use Rattle.sites_cli.proofs.requests.Console.new.Goals as goal

pub returns : goal.returns
unfolding lists_in
returns c = refl
