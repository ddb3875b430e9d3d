-- Several deeds at a desk, one after the other: all of them are done, or none. Assumes nothing: these are definitions.
--
--   next ns x              the list ns after the deed x
--   final ns xs            the list after all deeds of xs
--   Free p m ns x          x can be done at ns: a number comes that is below p - m and not there, while there is room for it;
--                          a number goes that is there
--   AllFree p m ns xs      each deed of xs can be done when its turn comes
--   Stopped p m ns xs e    one deed of xs cannot be done when its turn comes, e says why, and each before it can
--   Makes made w           what is made of a number n, as `made` says it, is the deed w n
--   replacing gone come    the numbers gone go, and then the numbers come come
--   Done, NotDone          one deed is done, or it is not
--   AllDone                several deeds are done
--   Exchanged, NotExchanged   a desk after the numbers gone went and the numbers come came, or why nothing changed
use Rattle.std.specs.Prelude.{◌≡◌, ℕ, ◌+◌, ◌-◌, ◌*◌, ◌%◌, ◌^◌, ◌<◌, true, false, ◌⊎◌, List, [], ◌∷◌, ◌++◌, length, map}
use Rattle.sorted.specs.Lists.{has, put, without, brought}
use Rattle.letter.specs.Desks.{Stops, deed_of}
use Rattle.letter.specs.Letter.{Desk as Held, Deed, comes, goes}
use Rattle.letter.specs.Refusals.{capacity}
use Rattle.letter.specs.declared.desks.Deed.{Deed as Asked}
use Rattle.letter.specs.declared.refusals.Refusal.{Refusal}
use Rattle.letter.specs.declared.refusals.Refusal.TheVariants.{Memory}

abbrev pub next : List ℕ → Deed → List ℕ
next ns (comes n) = put n ns
next ns (goes n) = without n ns

unfoldable pub final : List ℕ → List Deed → List ℕ
final ns [] = ns
final ns (x ∷ xs) = final (next ns x) xs

abbrev pub Free : ℕ → ℕ → List ℕ → Deed → Type 0
Free p m ns (comes n) = (n < p - m) × (has ns n ≡ false) × (length ns < capacity)
Free p m ns (goes n) = has ns n ≡ true

unfoldable pub AllFree : ℕ → ℕ → List ℕ → List Deed → Type 0
AllFree p m ns [] = Unit {0}
AllFree p m ns (x ∷ xs) = Free p m ns x × AllFree p m (next ns x) xs

unfoldable pub Stopped : ℕ → ℕ → List ℕ → List Deed → Refusal → Type 0
Stopped p m ns [] e = ⊥
Stopped p m ns (x ∷ xs) e = Stops p m ns x e ⊎ (Free p m ns x × Stopped p m (next ns x) xs e)

abbrev pub Makes : (ℕ → Asked → Type 0) → (ℕ → Deed) → Type 0
Makes made w = (n : ℕ) (x : Asked) → made n x → deed_of x ≡ w n

unfoldable pub replacing : List ℕ → List ℕ → List Deed
replacing gone come = map goes gone ++ map comes come

pub record Done (p m : ℕ) (x : Deed) (before after : List ℕ) (start finish : ℕ) : Type 0 where
  pub free : Free p m before x
  pub list_is : after ≡ next before x
  pub counted : finish ≡ (start + m) % 2 ^ 64

pub record NotDone (p m : ℕ) (x : Deed) (before after : List ℕ) (e : Refusal) : Type 0 where
  pub stops : Stops p m before x e
  pub same : after ≡ before

pub record AllDone (p m : ℕ) (xs : List Deed) (before after : List ℕ) (start finish : ℕ) : Type 0 where
  pub free : AllFree p m before xs
  pub list_is : after ≡ final before xs
  pub counted : finish ≡ (start + m * length xs) % 2 ^ 64

-- each deed was free, and one product was made for it at each point
pub record Exchanged (p m : ℕ) (gone come : List ℕ) (before after : Held) (start finish : ℕ) : Type 0 where
  pub free : AllFree p m before.list (replacing gone come)
  pub list_is : after.list ≡ brought before.list gone come
  pub counted : finish ≡ (start + m * (length gone + length come)) % 2 ^ 64

-- nothing changed, for want of memory or since one of the deeds cannot be done
pub record NotExchanged (p m : ℕ) (gone come : List ℕ) (before after : Held) (start finish : ℕ) (e : Refusal) : Type 0 where
  pub same : after ≡ before
  pub uncounted : finish ≡ start
  pub why : (e ≡ Memory) ⊎ Stopped p m before.list (replacing gone come) e
