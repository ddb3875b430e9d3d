-- What a call answers, and the one number that stands for it. Assumes nothing: these are definitions.
--
--   done g c       done, with two counts: numbers gone and come for a reading, 0 and 0 for a deed, 0 and the words
--                  written for a letter
--   refused k i    refused with the number k at the place i
--   more           more differ than were asked for
--   code a         the number: 0, the refusal's number or 2^32 - 1 in the high 32 bits; in the low ones g * 65536 + c,
--                  or the place, where places of 2^32 - 1 and more are told as 2^32 - 1
--   Coded r says   the number r stands for an answer of which `says` holds: the form of every call's contract
--   Plain a        counts below 65536, a refusal's number from 1 to 8, and a place below 2^32 - 1
--   CodesDiffer    plain answers with the same number are the same
use Rattle.std.specs.Prelude.{◌≡◌, ℕ, ◌+◌, ◌*◌, ◌<◌, ◌≤◌, min}
use Rattle.letter.specs.Refusals.{number, place}
use Rattle.letter.specs.declared.refusals.Refusal.{Refusal}
use Rattle.decode.specs.declared.entry.Reply.{Reply}
use Rattle.decode.specs.declared.entry.Reply.TheVariants.{These, More, Refused}

pub data Answer : Type 0 where
  done : ℕ → ℕ → Answer
  refused : ℕ → ℕ → Answer
  more : Answer

abbrev pub code : Answer → ℕ
code (done g c) = g * 65536 + c
code (refused k i) = k * 4294967296 + min i 4294967295
code more = 4294967295 * 4294967296

pub record Coded (r : ℕ) (says : Answer → Type 0) : Type 0 where
  pub answer : Answer
  pub is : r ≡ code answer
  pub holds : says answer

abbrev pub Plain : Answer → Type 0
Plain (done g c) = (g < 65536) × (c < 65536)
Plain (refused k i) = (0 < k) × (k ≤ 8) × (i < 4294967295)
Plain more = Unit {0}

abbrev pub CodesDiffer : Type 0
CodesDiffer = (a b : Answer) → Plain a → Plain b → code a ≡ code b → a ≡ b

-- the answers of the crates below
abbrev pub told : Refusal → Answer
told e = refused (number e) (place e)

abbrev pub replied : Reply → Answer
replied (These went came) = done went came
replied More = more
replied (Refused e) = told e
