-- From what was found to the answer of the reader.
use Rattle.std.proofs.Common.{◌≡◌, ℕ, ◌+◌, ◌≤◌, List, ◌++◌, length, get_or, drop, Some, None, Option, Ok, Err, Result, IfOk, MatchResult, sym, ap, ◌∙◌, subst, inl, inr, arith}
use Rattle.letter.specs.Letter.{Letter, letter, points, values}
use Rattle.letter.proofs.Pointwise.{length_values}
use Rattle.letter.proofs.Points.{length_points}
use Rattle.letter.specs.declared.refusals.Refusal.{Refusal}
use Rattle.letter.specs.Slices.{letter_in, list_in, LetterSound}
use Rattle.explain.specs.Explanation.{Found, these}
use Rattle.decode.specs.Beside.{ToldBy, Differs, Unread}
use Rattle.decode.specs.Entry.{Room, Tells, Sound, Due, TheseSay, ReadSays, SoundBeside, DueBeside, BesideSays}
use Rattle.decode.specs.Numbers.{listed}
use Rattle.decode.specs.declared.entry.Reply.{Reply}
use Rattle.decode.specs.declared.entry.Reply.TheVariants.{Refused}
use Rattle.decode.specs.declared.numbers.Difference.{Difference}
use Rattle.decode.proofs.Listing.{length_listed}

-- what was found has at most d numbers
pub found_few : (p m d : ℕ) (l : Letter) (list gone come : List ℕ) → Found p m d l list gone come → length gone + length come ≤ d
found_few p m d l list gone come (these one few) = few

these_say : (p d : ℕ) (note list out out₁ : List ℕ) (f : Difference)
    → ToldBy p (get_or note 0 0) d (letter_in note) list (listed f.gone) (listed f.come)
    → out₁ ≡ listed f.gone ++ (listed f.come ++ drop (f.gone.len + f.come.len) out)
    → TheseSay p note list out d f.gone.len f.come.len out₁
these_say p d note list out out₁ f told written =
    record {
      gone = listed f.gone;
      come = listed f.come;
      gone_count = sym (length_listed f.gone);
      come_count = sym (length_listed f.come);
      found = told.found;
      alone = told.alone;
      row =
          written
          ∙ ap (λ t. listed f.gone ++ (listed f.come ++ drop (t + f.come.len) out)) (sym (length_listed f.gone))
          ∙ ap (λ t. listed f.gone ++ (listed f.come ++ drop (length (listed f.gone) + t) out)) (sym (length_listed f.come));
    }

pub reads : (p d : ℕ) (note here out out₁ : List ℕ) (o : Option Difference) (r : Reply)
    → Sound p note here out d
    → Differs p (get_or note 0 0) d (letter_in note) (list_in here) o
    → Tells o out r out₁
    → ReadSays p note here out d r out₁
reads p d note here out out₁ None r sound found told =
    subst (λ (t : Reply). ReadSays p note here out d t out₁) (sym told.0) (sound, (found, told.1))
reads p d note here out out₁ (Some f) r sound found told =
    subst (λ (t : Reply). ReadSays p note here out d t out₁) (sym told.0) (sound, these_say p d note (list_in here) out out₁ f found told.1)

pub reads_beside : (p d k : ℕ) (note list out out₁ : List ℕ) (o : Option Difference) (r : Reply)
    → SoundBeside p note k out d
    → Differs p (get_or note 0 0) d (letter_in note) list o
    → Tells o out r out₁
    → BesideSays p note list k out d r out₁
reads_beside p d k note list out out₁ None r sound found told =
    subst (λ (t : Reply). BesideSays p note list k out d t out₁) (sym told.0) (sound, (found, told.1))
reads_beside p d k note list out out₁ (Some f) r sound found told =
    subst (λ (t : Reply). BesideSays p note list k out d t out₁) (sym told.0) (sound, these_say p d note list out out₁ f found told.1)

-- what was found fits a row of d words
pub room_differs : (p m d n : ℕ) (l : Letter) (list : List ℕ) (o : Option Difference) → Differs p m d l list o → d ≤ n → Room o n
room_differs p m d n l list None found room = tt
room_differs p m d n l list (Some f) found room =
    omega (arith, found_few p m d l list _ _ found.found, length_listed f.gone, length_listed f.come)

-- what was sought fits the row, and is answered by a reply
pub room_sought : (p m d n : ℕ) (l : Letter) (list : List ℕ) (S : Type 0) (D : Refusal → Type 0) (r : Result (Option Difference) Refusal)
    → (S → d ≤ n)
    → MatchResult r (λ o. S × Differs p m d l list o) D
    → IfOk r (λ o. Room o n)
room_sought p m d n l list S D (Ok o) room sought = room_differs p m d n l list o sought.1 (room sought.0)
room_sought p m d n l list S D (Err e) room sought = tt

abbrev Told : Result (Option Difference) Refusal → List ℕ → Reply → List ℕ → Type 0
Told r out reply out₁ = MatchResult r (λ o. Tells o out reply out₁) (λ e. (reply ≡ Refused e) × (out₁ ≡ out))

pub reads_sought : (p d : ℕ) (note here out out₁ : List ℕ) (r : Result (Option Difference) Refusal) (reply : Reply)
    → MatchResult r (λ o. Sound p note here out d × Differs p (get_or note 0 0) d (letter_in note) (list_in here) o) (Due p note here out d)
    → Told r out reply out₁
    → ReadSays p note here out d reply out₁
reads_sought p d note here out out₁ (Ok o) reply sought told = reads p d note here out out₁ o reply sought.0 sought.1 told
reads_sought p d note here out out₁ (Err e) reply due told =
    subst (λ (t : Reply). ReadSays p note here out d t out₁) (sym told.0) (told.1, due)

pub reads_sought_beside : (p d k : ℕ) (note list out out₁ : List ℕ) (r : Result (Option Difference) Refusal) (reply : Reply)
    → MatchResult r (λ o. SoundBeside p note k out d × Differs p (get_or note 0 0) d (letter_in note) list o) (DueBeside p note k out d)
    → Told r out reply out₁
    → BesideSays p note list k out d reply out₁
reads_sought_beside p d k note list out out₁ (Ok o) reply sought told =
    reads_beside p d k note list out out₁ o reply sought.0 sought.1 told
reads_sought_beside p d k note list out out₁ (Err e) reply due told =
    subst (λ (t : Reply). BesideSays p note list k out d t out₁) (sym told.0) (told.1, due)

-- a desk's letter, as the values of its list at the points
pub kept_values : (p m : ℕ) (l : Letter) (ns vs : List ℕ) → l ≡ letter p m ns → vs ≡ l.at → vs ≡ values p (points p m) ns
unfolding letter
kept_values p m l ns vs says at-is = at-is ∙ ap (λ t. t.at) says

pub kept_length : (p m : ℕ) (ns vs : List ℕ) → vs ≡ values p (points p m) ns → length vs ≡ m
kept_length p m ns vs are = ap length are ∙ length_values p (points p m) ns ∙ length_points p m

-- the same by other names for size, letter and list
pub differs_by : (p m k d : ℕ) (l l' : Letter) (list list' : List ℕ) (o : Option Difference)
    → m ≡ k
    → l ≡ l'
    → list ≡ list'
    → Differs p m d l list o
    → Differs p k d l' list' o
differs_by p m k d l l' list list' o m-is l-is list_is found =
    subst (λ (t : List ℕ). Differs p k d l' t o) list_is
    (subst (λ (t : Letter). Differs p k d t list o) l-is (subst (λ (t : ℕ). Differs p t d l list o) m-is found))

-- why a letter in words is not read beside a desk
pub due_unread : (p : ℕ) (note : List ℕ) (m d k : ℕ) (out : List ℕ) (e : Refusal)
    → LetterSound p note
    → m ≡ get_or note 0 0
    → Unread m d k e
    → DueBeside p note k out d e
unfolding Unread DueBeside
due_unread p note m d k out e sound size (inl short) = inr (inl (short.0, (sound, omega (arith, short.1))))
due_unread p note m d k out e sound size (inr over) =
    inr (inr (inl (over.0, (sound, omega (arith, over.1.0), omega (arith, over.1.1)))))
