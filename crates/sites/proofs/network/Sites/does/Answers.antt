use Rattle.std.proofs.Common.{refl, inl, arith}
use Rattle.letter.specs.Desks.{deed_of}
use Rattle.sites.specs.Network.{Absent, lists_of}
use Rattle.sites.proofs.Listing.{sites_count, right, passed}
use Rattle.sites.proofs.network.Sites.does.Goals as goal

pub returns-in_default : goal.returns-in_default
unfolding Absent lists_of
returns-in_default g c =
    let s = c.args.self.now in
    record {
      done = record { same = refl; why = inl ((refl, refl), omega (arith, c.in_default.ensures.item.3, s.sites.ok.0, sites_count s)) };
      right = right _;
    }

pub returns : goal.returns
returns g c =
    record {
      done =
          passed c.args.i (deed_of c.args.deed) c.args.self.now _ c.in-Some.site.now c.does.new.self _ _ c.does.result
          (c.in-Some.ensures.variant.0 refl) c.in-Some.ensures.value refl c.does.ensures;
      right = right _;
    }
