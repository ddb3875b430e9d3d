use Rattle.sites.proofs.Listing.{found}
use Rattle.sites.proofs.network.Sites.site.Goals as goal

pub returns : goal.returns
returns g c =
    let got = c.get.ensures.lookup in
    rw c.ok_or.ensures.value (found c.args.self.now c.deref.result.now c.args.i c.get.result c.deref.ensures.value got.0 got.1)
