-- What is taken up of a list that was read.
use Rattle.std.proofs.Common.{◌≡◌, ℕ, ◌⊎◌, List, Ok, Err, Result, refl, ap, ◌∙◌, subst, MatchResult}
use Rattle.sorted.specs.Lists.{brought, without_all}
use Rattle.letter.specs.Exchanges.{Exchanged, NotExchanged, Stopped, replacing}
use Rattle.letter.specs.Letter.{Desk}
use Rattle.letter.specs.declared.refusals.Refusal.{Refusal}
use Rattle.letter.specs.declared.refusals.Refusal.TheVariants.{Memory}
use Rattle.sites.specs.Taking.{going, taken_up, Untaken}
use Rattle.sites.specs.declared.ladder.Way.{Way}
use Rattle.sites.specs.declared.ladder.Way.TheVariants.{Take, Join}

taken_list : (w : Way) (here gone come : List ℕ) → brought here (going w gone) come ≡ taken_up w here gone come
unfolding brought without_all
taken_list Take here gone come = refl
taken_list Join here gone come = refl

-- an exchange at a desk, by the names of a site's request
pub taken : {U : Type 0} (p m : ℕ) (w : Way) (here after : Desk) (gone come out into : List ℕ) (start finish : ℕ) (r : Result U Refusal)
    → m ≡ 64
    → out ≡ going w gone
    → into ≡ come
    → MatchResult r (λ _. Exchanged p m out into here after start finish) (NotExchanged p m out into here after start finish)
    → MatchResult r (λ _. after.list ≡ taken_up w here.list gone come) (λ e. (after.list ≡ here.list) × Untaken p w here.list gone come e)
unfolding Untaken
taken p m w here after gone come out into start finish (Ok u) size out-is into-is done =
    done.list_is
    ∙ ap (λ t. brought here.list t into) out-is
    ∙ ap (brought here.list (going w gone)) into-is
    ∙ taken_list w here.list gone come
taken p m w here after gone come out into start finish (Err e) size out-is into-is not = (
  ap (λ (d : Desk). d.list) not.same,
  subst (λ (k : ℕ). (e ≡ Memory) ⊎ Stopped p k here.list (replacing (going w gone) come) e) size
      (subst (λ (t : List ℕ). (e ≡ Memory) ⊎ Stopped p m here.list (replacing (going w gone) t) e) into-is
      (subst (λ (t : List ℕ). (e ≡ Memory) ⊎ Stopped p m here.list (replacing t into) e) out-is not.why)),
)
