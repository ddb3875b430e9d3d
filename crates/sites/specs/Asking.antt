-- What comes of it when site i asks site j. The lists of all sites are ls before and ls₁ after; there is the list of site j
-- and here that of site i. Assumes nothing: these are definitions.
--
--   Answer                  what is told: a reading that was taken up; none, where more differ than the longest letter can tell;
--                           or the refusal
--   Between ls i j          both sites are there, and are not the same
--   Halted p w here come e  why the numbers that were told are not taken up: memory is wanting; one of them is not below p - 64,
--                           told with 5; or lists put together would have more numbers than a list may have, told with 7
--   Unmet ..                a letter was read, and what it tells is not taken up
--   Unasked ..              why nothing is asked, or nothing is taken up; site i comes first, then site j
--   AskSays ..              what is told, and what the lists are afterwards
--   met w there here        what the list here is to be: the one there, or both put together
--   Near, Far               what is told where at most 63 numbers differ, and where more do, if no letter is taken in
--   AskTruly ..             the promise. Of at most 63 differences all are told and no others, and the list here is what it is to
--                           be, if each rung that may be taken in is not; of up to 6 differences without any condition.
--                           Of more, under that condition, nothing is told. No other list changes
use Rattle.std.specs.Prelude.{◌≡◌, ℕ, ◌+◌, ◌-◌, ◌<◌, ◌≤◌, true, ◌⊎◌, List, length, ◌≢◌, Some, None, Ok, Err, Option, Result, slice_set}
use Rattle.sorted.specs.Lists.{has, only, differ, put_all}
use Rattle.letter.specs.Desks.{Told}
use Rattle.letter.specs.Refusals.{capacity}
use Rattle.letter.specs.declared.refusals.Refusal.{Refusal}
use Rattle.letter.specs.declared.refusals.Refusal.TheVariants.{Memory}
use Rattle.sites.specs.Ladder.{rungs, Answers, Unanswered, Truthful, gone_of, come_of}
use Rattle.sites.specs.Network.{list_at, Absent}
use Rattle.sites.specs.Taking.{taken_up}
use Rattle.sites.specs.declared.ladder.Reading.{Reading}
use Rattle.sites.specs.declared.ladder.Way.{Way}
use Rattle.sites.specs.declared.ladder.Way.TheVariants.{Take, Join}

abbrev pub Answer : Type 0
Answer = Result (Option Reading) Refusal

pub record Between (ls : List (List ℕ)) (i j : ℕ) : Type 0 where
  pub asker : i < length ls
  pub asked : j < length ls
  pub apart : i ≡ j → ⊥

abbrev pub Halted : ℕ → Way → List ℕ → List ℕ → Refusal → Type 0
Halted p w here come e =
    (e ≡ Memory)
    ⊎ (((n : ℕ) × (Told 5 n e × (has come n ≡ true) × (p - 64 ≤ n)))
    ⊎ ((w ≡ Join) × (Told 7 capacity e × (capacity < length here + length come))))

pub record Unmet (p : ℕ) (w : Way) (there here : List ℕ) (e : Refusal) : Type 0 where
  pub reading : Reading
  pub answers : Answers p there here rungs 0 reading
  pub why : Halted p w here (come_of reading) e

unfoldable pub Unasked : (p i j : ℕ) → Way → List (List ℕ) → Refusal → Type 0
Unasked p i j w ls e =
    Absent ls i e
    ⊎ ((Told 8 j e × ((i < length ls) × ((length ls ≤ j) ⊎ (i ≡ j))))
    ⊎ (Between ls i j × Unmet p w (list_at ls j) (list_at ls i) e))

abbrev pub AskSays : (p i j : ℕ) → Way → (ls ls₁ : List (List ℕ)) → Answer → Type 0
AskSays p i j w ls ls₁ (Ok (Some r)) =
    Between ls i j
    × (Answers p (list_at ls j) (list_at ls i) rungs 0 r × (ls₁ ≡ slice_set ls i (taken_up w (list_at ls i) (gone_of r) (come_of r))))
AskSays p i j w ls ls₁ (Ok None) = Between ls i j × (Unanswered p (list_at ls j) (list_at ls i) rungs × (ls₁ ≡ ls))
AskSays p i j w ls ls₁ (Err e) = (ls₁ ≡ ls) × Unasked p i j w ls e

abbrev pub met : Way → List ℕ → List ℕ → List ℕ
met Take there here = there
met Join there here = put_all there here

abbrev pub Near : Way → (there here here₁ : List ℕ) → Answer → Type 0
Near w there here here₁ (Ok (Some r)) =
    (gone_of r ≡ only here there) × (come_of r ≡ only there here) × (here₁ ≡ met w there here)
Near w there here here₁ (Ok None) = ⊥
Near w there here here₁ (Err e) = (e ≡ Memory) ⊎ ((w ≡ Join) × Told 7 capacity e)

abbrev pub Far : Answer → Type 0
Far (Ok (Some r)) = ⊥
Far (Ok None) = Unit {0}
Far (Err e) = Unit {0}

pub record AskTruly (p i j : ℕ) (w : Way) (ls ls₁ : List (List ℕ)) (a : Answer) : Type 0 where
  pub near :
      Between ls i j → differ (list_at ls j) (list_at ls i) ≤ 63 →
      (6 < differ (list_at ls j) (list_at ls i) → Truthful p (list_at ls j) (list_at ls i)) →
      Near w (list_at ls j) (list_at ls i) (list_at ls₁ i) a
  pub far : 63 < differ (list_at ls j) (list_at ls i) → Truthful p (list_at ls j) (list_at ls i) → Far a
  pub others : (k : ℕ) → (k ≢ i) → list_at ls₁ k ≡ list_at ls k
