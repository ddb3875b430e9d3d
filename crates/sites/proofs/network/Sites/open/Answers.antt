use Rattle.std.proofs.Common.{◌≡◌, ◌<◌, ◌≤◌, ◌⊎◌, [], replicate, refl, ap, ◌∙◌, inl, inr, arith}
use Rattle.std.proofs.lemmas.Result.{err_from_is_err_and}
use Rattle.sites.specs.Network.{NotOpened, lists_of}
use Rattle.sites.proofs.network.Sites.open.Goals as goal

pub returns-then-n-lt-FEWEST : goal.returns-then-n-lt-FEWEST
unfolding NotOpened
returns-then-n-lt-FEWEST g c = inl ((refl, refl), either c.then-n-lt-FEWEST.either)
  where
    either : (c.args.n < 2) ⊎ ((2 ≤ c.args.n) × (40 < c.args.n)) → (c.args.n < 2) ⊎ (40 < c.args.n)
    either (inl few) = inl few
    either (inr many) = inr many.1

pub returns-in_err-site : goal.returns-in_err-site
unfolding NotOpened
returns-in_err-site g c =
    let p = err_from_is_err_and c.from_residual.result c.from_residual.ensures.1 in
    let small = c.in_err-site.ensures in
    rw (p.1, p.2) (inr (omega (arith, c.if-n-lt-FEWEST.false), omega (arith, c.if-n-gt-MOST.false), inl (small.1, small.0)))

pub returns-in_err-map_err : goal.returns-in_err-map_err
unfolding NotOpened
returns-in_err-map_err g c =
    let p = err_from_is_err_and c.from_residual-in_err-map_err.result c.from_residual-in_err-map_err.ensures.1 in
    rw (p.1, p.2)
    (inr (omega (arith, c.if-n-lt-FEWEST.false), omega (arith, c.if-n-gt-MOST.false), inr (refl, c.in_ok-site.ensures.0)))

pub returns : goal.returns
unfolding lists_of
returns g c =
    let inv = c.loop-k.invariant in
    let ended : c.loop-k._k ≡ c.args.n = omega arith in
    record {
      several = omega (arith, c.if-n-lt-FEWEST.false);
      few = omega (arith, c.if-n-gt-MOST.false);
      room = inv.2 (omega (arith, ended, c.if-n-lt-FEWEST.false));
      empty = inv.0 ∙ ap (λ k. replicate k []) ended;
    }
