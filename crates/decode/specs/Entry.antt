-- What the reader answers and leaves behind, over the words that it is lent. Assumes nothing: these are definitions.
--
--   Room f n               a row of n words has room for what was found
--   Tells f out r out₁     the reply r and the row out₁ tell what was found, if anything, in the row out
--   Sound p note here out d   letter, list, allowance and row pass all checks
--   Due p note here out d e   the refusal e is the first that applies
--   TheseSay ..            the numbers gone and come that are told: they explain the letter, and nothing else does
--   ReadSays ..            the answer in full; a refusal leaves the row as it was
--   SoundBeside, DueBeside, BesideSays      the same beside a desk's own list
use Rattle.std.specs.Prelude.{◌≡◌, ℕ, ◌+◌, ◌-◌, ◌<◌, ◌≤◌, ◌⊎◌, List, ◌++◌, length, drop, Some, None, Option, slice_index}
use Rattle.letter.specs.Desks.{Told}
use Rattle.letter.specs.Refusals.{number, place}
use Rattle.letter.specs.Slices.{letter_in, list_in, LetterSound, LetterFault, ListSound, ListFault}
use Rattle.letter.specs.declared.refusals.Refusal.{Refusal}
use Rattle.explain.specs.Explanation.{Found, TooMany}
use Rattle.decode.specs.Numbers.{listed}
use Rattle.decode.specs.declared.entry.Reply.{Reply}
use Rattle.decode.specs.declared.entry.Reply.TheVariants.{These, More, Refused}
use Rattle.decode.specs.declared.numbers.Difference.{Difference}

abbrev pub Room : Option Difference → ℕ → Type 0
Room None n = Unit {0}
Room (Some f) n = f.gone.len + f.come.len ≤ n

abbrev pub Tells : Option Difference → List ℕ → Reply → List ℕ → Type 0
Tells None out r out₁ = (r ≡ More) × (out₁ ≡ out)
Tells (Some f) out r out₁ =
    (r ≡ These f.gone.len f.come.len)
    × (out₁ ≡ listed f.gone ++ (listed f.come ++ drop (f.gone.len + f.come.len) out))

pub record Sound (p : ℕ) (note here out : List ℕ) (d : ℕ) : Type 0 where
  pub letter : LetterSound p note
  pub list : ListSound (p - slice_index note 0) here
  pub allowed : d ≤ slice_index note 0
  pub room : d ≤ length out

-- 1 the letter, 2 the list, 3 the allowance, 4 the row: each only if those before it are sound
unfoldable pub Due : ℕ → (note here out : List ℕ) (d : ℕ) → Refusal → Type 0
Due p note here out d e =
    ((number e ≡ 1) × LetterFault p note (place e))
    ⊎ (((number e ≡ 2) × (LetterSound p note × ListFault (p - slice_index note 0) here (place e)))
    ⊎ ((Told 3 d e × (LetterSound p note × ListSound (p - slice_index note 0) here × (slice_index note 0 < d)))
    ⊎ (Told 4 (length out) e
    × (LetterSound p note × ListSound (p - slice_index note 0) here × (d ≤ slice_index note 0) × (length out < d)))))

pub record TheseSay (p : ℕ) (note list out : List ℕ) (d went came : ℕ) (out₁ : List ℕ) : Type 0 where
  pub gone : List ℕ
  pub come : List ℕ
  pub gone_count : went ≡ length gone
  pub come_count : came ≡ length come
  pub found : Found p (slice_index note 0) d (letter_in note) list gone come
  pub alone : (g c : List ℕ) → Found p (slice_index note 0) d (letter_in note) list g c → (g ≡ gone) × (c ≡ come)
  pub row : out₁ ≡ gone ++ (come ++ drop (length gone + length come) out)

abbrev pub ReadSays : ℕ → (note here out : List ℕ) (d : ℕ) → Reply → List ℕ → Type 0
ReadSays p note here out d (These went came) out₁ =
    Sound p note here out d × TheseSay p note (list_in here) out d went came out₁
ReadSays p note here out d More out₁ =
    Sound p note here out d × (TooMany p (slice_index note 0) d (letter_in note) (list_in here) × (out₁ ≡ out))
ReadSays p note here out d (Refused e) out₁ = (out₁ ≡ out) × Due p note here out d e

-- the same beside a desk that keeps k values of its list: a letter of more values is told as a letter at fault, at 0
pub record SoundBeside (p : ℕ) (note : List ℕ) (k : ℕ) (out : List ℕ) (d : ℕ) : Type 0 where
  pub letter : LetterSound p note
  pub kept : slice_index note 0 ≤ k
  pub allowed : d ≤ slice_index note 0
  pub room : d ≤ length out

unfoldable pub DueBeside : ℕ → (note : List ℕ) (k : ℕ) (out : List ℕ) (d : ℕ) → Refusal → Type 0
DueBeside p note k out d e =
    ((number e ≡ 1) × LetterFault p note (place e))
    ⊎ ((Told 1 0 e × (LetterSound p note × (k < slice_index note 0)))
    ⊎ ((Told 3 d e × (LetterSound p note × (slice_index note 0 ≤ k) × (slice_index note 0 < d)))
    ⊎ (Told 4 (length out) e × (LetterSound p note × (slice_index note 0 ≤ k) × (d ≤ slice_index note 0) × (length out < d)))))

abbrev pub BesideSays : ℕ → (note list : List ℕ) (k : ℕ) (out : List ℕ) (d : ℕ) → Reply → List ℕ → Type 0
BesideSays p note list k out d (These went came) out₁ =
    SoundBeside p note k out d × TheseSay p note list out d went came out₁
BesideSays p note list k out d More out₁ =
    SoundBeside p note k out d × (TooMany p (slice_index note 0) d (letter_in note) list × (out₁ ≡ out))
BesideSays p note list k out d (Refused e) out₁ = (out₁ ≡ out) × DueBeside p note k out d e
