use Rattle.std.proofs.Common.{◌∙◌}
use Rattle.sites.proofs.Listing.{sites_count}
use Rattle.sites.proofs.network.Sites.len.Goals as goal

pub returns : goal.returns
returns g c = c.len.ensures ∙ sites_count c.args.self.now
