use Rattle.sites.specs.Site.{site_list}
use Rattle.sites.proofs.Climbing.{Climbing}
use Rattle.sites.proofs.site.Site.climb.Given as goal

abbrev pub invariant-loop-m : goal.invariant-loop-m
invariant-loop-m g l = Climbing g.row.P (site_list l.there) (site_list l.self) l.m-index l.sent
