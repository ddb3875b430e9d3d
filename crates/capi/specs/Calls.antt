-- What each call answers and leaves behind, over the words that it is lent, modulo 65,537.
-- Assumes nothing: these are definitions.
--
--   Reads note here out d a out₁    the answer a to a reading, and the row out₁ that it leaves
--   Written, NotWritten             a letter was written, or why there is none
--   Writes list out m a out₁        the answer a to the making of a letter, and the row out₁ that it leaves
use Rattle.std.specs.Prelude.{◌≡◌, ℕ, ◌+◌, ◌-◌, ◌<◌, ◌≤◌, ◌⊎◌, List, ◌∷◌, ◌++◌, length, drop, slice_index}
use Rattle.letter.specs.Letter.{points, values}
use Rattle.letter.specs.Slices.{list_in, ListSound, ListFault}
use Rattle.decode.specs.Entry.{ReadSays}
use Rattle.decode.specs.declared.entry.Reply.{Reply}
use Rattle.capi.specs.Answers.{Answer, done, refused, more, replied}

-- the answer is the reader's reply; ReadSays has what it says
pub record Reads (note here out : List ℕ) (d : ℕ) (a : Answer) (out₁ : List ℕ) : Type 0 where
  pub reply : Reply
  pub is : a ≡ replied reply
  pub says : ReadSays 65537 note here out d reply out₁

-- a letter of m values: m, how many numbers the list has, and its values at the points
pub record Written (list out : List ℕ) (m g n : ℕ) (out₁ : List ℕ) : Type 0 where
  pub few : m ≤ 64
  pub sound : ListSound (65537 - m) list
  pub size : n ≡ 2 + m
  pub none : g ≡ 0
  pub leaves : out₁ ≡ m ∷ slice_index list 0 ∷ (values 65537 (points 65537 m) (list_in list) ++ drop (2 + m) out)

-- why there is none: 1 too many values, 2 the list, 4 the row, each only if those before it are in order
abbrev pub Due : (list out : List ℕ) (m k i : ℕ) → Type 0
Due list out m k i =
    ((k ≡ 1) × (i ≡ 0) × (64 < m))
    ⊎ (((k ≡ 2) × (m ≤ 64) × ListFault (65537 - m) list i)
    ⊎ ((k ≡ 4) × (i ≡ length out) × (m ≤ 64) × ListSound (65537 - m) list × (length out < 2 + m)))

pub record NotWritten (list out : List ℕ) (m k i : ℕ) (out₁ : List ℕ) : Type 0 where
  pub kept : out₁ ≡ out
  pub due : Due list out m k i

abbrev pub Writes : (list out : List ℕ) (m : ℕ) → Answer → List ℕ → Type 0
Writes list out m (done g n) out₁ = Written list out m g n out₁
Writes list out m (refused k i) out₁ = NotWritten list out m k i out₁
Writes list out m more out₁ = ⊥
