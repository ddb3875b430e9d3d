-- Before sites are opened there are no lists.
use Rattle.std.proofs.Common.{◌≡◌, ℕ, length, None, Err, Option, refl, ap, inl, arith}
use Rattle.letter.specs.Letter.{Deed}
use Rattle.letter.specs.declared.refusals.Refusal.TheVariants.{Site}
use Rattle.sites.specs.Asking.{AskSays, AskTruly, Unasked}
use Rattle.sites.specs.Network.{Absent, NotPassed}
use Rattle.sites.specs.declared.ladder.Way.{Way}
use Rattle.sites.specs.declared.network.Sites.{Sites}
use Rattle.sites.proofs.Answering.{unasked_truly}
use Rattle.sites_cli.specs.Told.{lists_in}

pub none_absent : (o : Option (Sites 65537)) (i : ℕ) → o ≡ None → Absent (lists_in o) i (Site i)
unfolding Absent lists_in
none_absent o i none = ((refl, refl), omega (arith, ap (λ (t : Option (Sites 65537)). length (lists_in t)) none))

pub none_passed : (o : Option (Sites 65537)) (i : ℕ) (x : Deed) → o ≡ None → NotPassed 65537 i x (lists_in o) (lists_in o) (Site i)
none_passed o i x none = record { same = refl; why = inl (none_absent o i none) }

pub none_asked : (o : Option (Sites 65537)) (i j : ℕ) (w : Way) → o ≡ None → AskSays 65537 i j w (lists_in o) (lists_in o) (Err (Site i))
unfolding Unasked
none_asked o i j w none = (refl, inl (none_absent o i none))

pub none_truly : (o : Option (Sites 65537)) (i j : ℕ) (w : Way) → o ≡ None → AskTruly 65537 i j w (lists_in o) (lists_in o) (Err (Site i))
unfolding Absent
none_truly o i j w none =
    unasked_truly 65537 i j w (lists_in o) (Site i) (λ between. omega (arith, between.asker, (none_absent o i none).1))
