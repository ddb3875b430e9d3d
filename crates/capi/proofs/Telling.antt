-- From what the crates below answer to what is told by one number.
use Rattle.std.proofs.Common.{◌≡◌, ℕ, ◌+◌, ◌<◌, ◌≤◌, List, ◌∷◌, ◌++◌, length, get_or, drop, Ok, Err, Result, refl, ap, ◌∙◌, inl, inr, arith, MatchResult}
use Rattle.std.proofs.lemmas.List.{length-take-le, length-drop}
use Rattle.letter.specs.Letter.{Letter as Said, letter, points, values}
use Rattle.letter.specs.Letters.{letter_of}
use Rattle.letter.specs.Rows.{numbers}
use Rattle.letter.specs.Refusals.{number, place}
use Rattle.letter.specs.Slices.{list_in, LetterWritten, TooShort}
use Rattle.letter.specs.Steps.{LetterOf, NoLetterOf}
use Rattle.letter.specs.declared.letters.Letter.{Letter}
use Rattle.letter.specs.declared.refusals.Refusal.{Refusal}
use Rattle.explain.specs.Explanation.{Found, these}
use Rattle.decode.specs.Entry.{Sound, TheseSay, ReadSays}
use Rattle.decode.specs.declared.entry.Reply.{Reply}
use Rattle.capi.specs.Answers.{Coded, code, replied}
use Rattle.capi.specs.Calls.{Due, NotWritten, Reads, Written}

found_few : (p m d : ℕ) (l : Said) (here gone come : List ℕ) → Found p m d l here gone come → length gone + length come ≤ d
found_few p m d l here gone come (these why few) = few

-- at most 64 numbers are told
pub told_few : (note here out : List ℕ) (d went came : ℕ) (out₁ : List ℕ)
    → Sound 65537 note here out d × TheseSay 65537 note (list_in here) out d went came out₁
    → (went < 65536) × (came < 65536)
told_few note here out d went came out₁ says =
    let few = found_few 65537 _ d _ _ _ _ says.1.found in
    let most = says.0.letter.few in
    let allowed = says.0.allowed in
    let a = says.1.gone_count in
    let b = says.1.come_count in (omega arith, omega arith)

pub reads_by : (note here out : List ℕ) (d r : ℕ) (reply : Reply) (out₁ : List ℕ)
    → r ≡ code (replied reply)
    → ReadSays 65537 note here out d reply out₁
    → Coded r (λ a. Reads note here out d a out₁)
reads_by note here out d r reply out₁ coded says =
    record { answer = replied reply; is = coded; holds = record { reply = reply; is = refl; says = says } }

-- a letter that was made, and written or not
pub written : (list out : List ℕ) (m : ℕ) (l : Letter 65537) (out₁ : List ℕ) (r : Result ℕ Refusal)
    → LetterOf 65537 m list l
    → MatchResult r (LetterWritten l.values.len l.count (numbers l.values) out out₁) (TooShort (2 + l.values.len) out out₁)
    → MatchResult r (λ n. Written list out m 0 n out₁) (λ e. NotWritten list out m (number e) (place e) out₁)
unfolding letter letter_of
written list out m l out₁ (Ok n) made done-so =
    let said = made.says in
    let size = made.size in
    let there = made.sound.there in
    let count : l.count ≡ get_or list 0 0 = ap (λ (t : Said). t.many) said ∙ length-take-le (get_or list 0 0) (drop 1 list) (omega (arith, length-drop 1 list)) in
    let at : numbers l.values ≡ values 65537 (points 65537 m) (list_in list) = ap (λ (t : Said). t.at) said in
    record {
      few = made.few;
      sound = made.sound;
      size = done-so.size ∙ ap (λ t. 2 + t) size;
      none = refl;
      leaves =
          done-so.leaves
          ∙ ap (λ t. t ∷ l.count ∷ (numbers l.values ++ drop (2 + t) out)) size
          ∙ ap (λ t. m ∷ t ∷ (numbers l.values ++ drop (2 + m) out)) count
          ∙ ap (λ t. m ∷ get_or list 0 0 ∷ (t ++ drop (2 + m) out)) at;
    }
written list out m l out₁ (Err e) made short =
    record {
      kept = short.kept;
      due = inr (inr (short.told, short.where_is, made.few, made.sound, omega (arith, short.short, made.size)));
    }

-- no letter of the list
pub not_made : (list out : List ℕ) (m : ℕ) (e : Refusal) → NoLetterOf 65537 m list e → NotWritten list out m (number e) (place e) out
not_made list out m e why = record { kept = refl; due = due why }
  where
    due : NoLetterOf 65537 m list e → Due list out m (number e) (place e)
    due (inl (t, inl many)) = inl (t.0, t.1, many)
    due (inl (t, inr many)) = inl (t.0, t.1, omega arith)
    due (inr (few, (fewer, no'))) = inr (inl (no'.told, few, no'.fault))
