-- A deed at a site, by what its desk says.
use Rattle.std.proofs.Common.{◌≡◌, ℕ, Ok, Err, Result, ap, subst, MatchResult}
use Rattle.letter.specs.Desks.{DeedDone, DeedNotDone, Stops, deed_of}
use Rattle.letter.specs.Exchanges.{Done, NotDone}
use Rattle.letter.specs.Letter.{Desk}
use Rattle.letter.specs.declared.desks.Deed.{Deed}
use Rattle.letter.specs.declared.desks.Deed.TheVariants.{Comes, Goes}
use Rattle.letter.specs.declared.refusals.Refusal.{Refusal}
use Rattle.letter.proofs.Exchanges.{deed_done, deed_stops}

left_alone : (p m : ℕ) (x : Deed) (before after : Desk) (start finish : ℕ) (e : Refusal)
    → DeedNotDone p m x before after start finish e
    → after ≡ before
left_alone p m (Comes n) before after start finish e not = not.same
left_alone p m (Goes n) before after start finish e not = not.same

pub done_here : {U : Type 0} (p m : ℕ) (x : Deed) (before after : Desk) (start finish : ℕ) (r : Result U Refusal)
    → m ≡ 64
    → MatchResult r (λ _. DeedDone p m x before after start finish) (DeedNotDone p m x before after start finish)
    → MatchResult r (λ _. Done p 64 (deed_of x) before.list after.list start finish) (NotDone p 64 (deed_of x) before.list after.list)
done_here p m x before after start finish (Ok u) size done =
    subst (λ (k : ℕ). Done p k (deed_of x) before.list after.list start finish) size (deed_done p m x before after start finish done)
done_here p m x before after start finish (Err e) size not =
    record {
      stops =
          subst (λ (k : ℕ). Stops p k before.list (deed_of x) e) size (deed_stops p m x before after start finish e not);
      same = ap (λ (d : Desk). d.list) (left_alone p m x before after start finish e not);
    }
