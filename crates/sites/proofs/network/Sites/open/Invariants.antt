use Rattle.std.proofs.Common.{◌≡◌, ◌<◌, [], map, replicate, vec_items, vec_len}
use Rattle.sites.specs.Site.{site_list}
use Rattle.sites.proofs.network.Sites.open.Given as goal

abbrev pub invariant-loop-k : goal.invariant-loop-k
invariant-loop-k g l =
    (map (λ x. site_list x) (vec_items l.sites) ≡ replicate l._k [])
    × (vec_len l.sites ≡ l._k)
    × (0 < l._k → 64 < g.row.P)
