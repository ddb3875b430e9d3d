-- What comes of a letter of m values of the list there, read with the allowance d at a desk here that then brings its list
-- over. There keeps k values and here j; a desk is a list with its letter, after any deeds.
-- Assumes nothing: these are definitions.
--
--   Outcome                    what is told: a difference that was brought over; none, where more differ; or the refusal
--   AskedWell m d k j          both desks keep m values, and d is at most m
--   Brings ..                  gone and come are the only explanation of the letter with at most d numbers, and the list here is
--                              made of them
--   Unasked m d k j e          a desk keeps fewer values than m, or d is above m
--   Unbrought ..               a letter was read, and the numbers that it tells cannot all come
--   TogetherSays ..            what is told, and what the desk here holds afterwards
--   Near, Far                  what cannot be told, where at most d numbers differ, and where more do
--   Truly ..                   the promise: of at most d differences all are found and no others, and the list here is then the
--                              one there; of more, up to 2 m + 1 - d, it is told that they are more. Between desks that
--                              keep as many values nothing but want of memory is in the way
use Rattle.std.specs.Prelude.{◌≡◌, ℕ, ◌+◌, ◌-◌, ◌*◌, ◌<◌, ◌≤◌, true, ◌⊎◌, List, Some, None, Ok, Err, Option, Result}
use Rattle.sorted.specs.Lists.{has, only, differ, brought}
use Rattle.letter.specs.Desks.{Told}
use Rattle.letter.specs.Letter.{Desk, letter}
use Rattle.letter.specs.declared.refusals.Refusal.{Refusal}
use Rattle.letter.specs.declared.refusals.Refusal.TheVariants.{Memory}
use Rattle.explain.specs.Explanation.{TooMany}
use Rattle.decode.specs.Beside.{ToldBy}
use Rattle.decode.specs.Numbers.{listed}
use Rattle.decode.specs.declared.numbers.Difference.{Difference}

abbrev pub Outcome : Type 0
Outcome = Result (Option Difference) Refusal

pub record AskedWell (m d k j : ℕ) : Type 0 where
  pub there : m ≤ k
  pub here : m ≤ j
  pub allowed : d ≤ m

pub record Brings (p m d : ℕ) (there here here₁ gone come : List ℕ) : Type 0 where
  pub told : ToldBy p m d (letter p m there) here gone come
  pub list_is : here₁ ≡ brought here gone come

unfoldable pub Unasked : (m d k j : ℕ) → Refusal → Type 0
Unasked m d k j e = (Told 1 0 e × ((k < m) ⊎ (j < m))) ⊎ (Told 3 d e × ((m ≤ k) × (m ≤ j) × (m < d)))

-- a letter was read, and the numbers that it tells cannot all come: an explanation may name numbers that a desk of j values
-- does not take
pub record Unbrought (p m d : ℕ) (there : List ℕ) (j : ℕ) (here : List ℕ) (e : Refusal) : Type 0 where
  pub gone : List ℕ
  pub come : List ℕ
  pub told : ToldBy p m d (letter p m there) here gone come
  pub why : (e ≡ Memory) ⊎ ((n : ℕ) × (Told 5 n e × (has come n ≡ true) × (p - j ≤ n)))

abbrev pub TogetherSays : (p m d : ℕ) (there : List ℕ) (k : ℕ) (here : Desk) (j : ℕ) (here₁ : Desk) → Outcome → Type 0
TogetherSays p m d there k here j here₁ (Ok (Some f)) =
    AskedWell m d k j × Brings p m d there here.list here₁.list (listed f.gone) (listed f.come)
TogetherSays p m d there k here j here₁ (Ok None) =
    AskedWell m d k j × (TooMany p m d (letter p m there) here.list × (here₁ ≡ here))
TogetherSays p m d there k here j here₁ (Err e) =
    (here₁ ≡ here) × (Unasked m d k j e ⊎ (AskedWell m d k j × Unbrought p m d there j here.list e))

abbrev pub Near : (there here here₁ : List ℕ) → Outcome → Type 0
Near there here here₁ (Ok (Some f)) =
    (listed f.gone ≡ only here there) × (listed f.come ≡ only there here) × (here₁ ≡ there)
Near there here here₁ (Ok None) = ⊥
Near there here here₁ (Err e) = Unit {0}

abbrev pub Far : Outcome → Type 0
Far (Ok (Some f)) = ⊥
Far (Ok None) = Unit {0}
Far (Err e) = Unit {0}

pub record Truly (p m d : ℕ) (there : List ℕ) (k : ℕ) (here : Desk) (j : ℕ) (here₁ : Desk) (r : Outcome) : Type 0 where
  pub near : differ there here.list ≤ d → Near there here.list here₁.list r
  pub far : d < differ there here.list → differ there here.list + d ≤ 2 * m + 1 → Far r
  pub unhindered : (e : Refusal) → differ there here.list ≤ d → AskedWell m d k j → k ≡ j → r ≡ Err e → e ≡ Memory
