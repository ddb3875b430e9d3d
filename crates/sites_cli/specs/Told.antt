-- The line that answers each request, and what the sites' lists are afterwards; all modulo 65,537.
-- Assumes nothing: these are definitions.
--
--   lists_in o            the lists of the sites, none before they are opened
--   PassTold i x ls ls₁ t   a number comes or goes at site i: "done", or the refusal that is due
--   OpenTold, ListTold, LetterTold, AskTold   the same of the other requests; before sites are opened there is none
--   Answered q ls ls₁ t   the line t answers the request q
use Rattle.std.specs.Prelude.{◌≡◌, ℕ, ◌<◌, ◌≤◌, ◌⊎◌, List, [], length, replicate, Some, None, Ok, Err, codes, Option, Result, MatchResult}
use Rattle.letter.specs.Desks.{Told}
use Rattle.letter.specs.Letter.{Deed, comes, goes, letter}
use Rattle.letter.specs.Refusals.{refusal_text}
use Rattle.letter.specs.declared.refusals.Refusal.{Refusal}
use Rattle.lines.specs.Text.{asked_text, letter_text, list_text, opened_text}
use Rattle.sites.specs.Asking.{Answer, AskSays, AskTruly}
use Rattle.sites.specs.Ladder.{gone_of, come_of}
use Rattle.sites.specs.Network.{Absent, NotOpened, NotPassed, Passed, list_at, lists_of}
use Rattle.script.specs.declared.Request.{Request}
use Rattle.script.specs.declared.Request.TheVariants.{Open, Comes, Goes, Ask, Letter}
use Rattle.script.specs.declared.Way.{Way as Said}
use Rattle.sites.specs.declared.ladder.Way.{Way}
use Rattle.sites.specs.declared.ladder.Way.TheVariants.{Take, Join}
use Rattle.sites.specs.declared.network.Sites.{Sites}

unfoldable pub lists_in : Option (Sites 65537) → List (List ℕ)
lists_in None = []
lists_in (Some s) = lists_of s

abbrev pub deed_text : Result (Unit {0}) Refusal → List ℕ
deed_text (Ok u) = codes "done"
deed_text (Err e) = refusal_text e

pub record PassTold (i : ℕ) (x : Deed) (ls ls₁ : List (List ℕ)) (text : List ℕ) : Type 0 where
  pub start : ℕ
  pub finish : ℕ
  pub result : Result (Unit {0}) Refusal
  pub printed : text ≡ deed_text result
  pub says : MatchResult result (λ _. Passed 65537 i x ls ls₁ start finish) (NotPassed 65537 i x ls ls₁)

unfoldable pub OpenTold : ℕ → List (List ℕ) → List (List ℕ) → List ℕ → Type 0
OpenTold n ls ls₁ text =
    ((text ≡ opened_text n) × ((2 ≤ n) × (n ≤ 40) × (ls₁ ≡ replicate n [])))
    ⊎ ((e : Refusal) × ((text ≡ refusal_text e) × ((ls₁ ≡ ls) × NotOpened 65537 n e)))

unfoldable pub ListTold : ℕ → List (List ℕ) → List ℕ → Type 0
ListTold i ls text =
    ((text ≡ list_text (list_at ls i)) × (i < length ls))
    ⊎ ((e : Refusal) × ((text ≡ refusal_text e) × Absent ls i e))

unfoldable pub LetterTold : ℕ → ℕ → List (List ℕ) → List ℕ → Type 0
LetterTold i m ls text =
    ((text ≡ letter_text (letter 65537 m (list_at ls i)).many (letter 65537 m (list_at ls i)).at) × ((i < length ls) × (m ≤ 64)))
    ⊎ ((e : Refusal) × ((text ≡ refusal_text e) × (Absent ls i e ⊎ ((i < length ls) × (64 < m) × Told 1 0 e))))

abbrev pub answer_text : Answer → List ℕ
answer_text (Ok (Some r)) = asked_text (gone_of r) (come_of r) r.values r.sent
answer_text (Ok None) = codes "ask the valley"
answer_text (Err e) = refusal_text e

pub record AskTold (i j : ℕ) (w : Way) (ls ls₁ : List (List ℕ)) (text : List ℕ) : Type 0 where
  pub answer : Answer
  pub printed : text ≡ answer_text answer
  pub says : AskSays 65537 i j w ls ls₁ answer
  pub truly : AskTruly 65537 i j w ls ls₁ answer

-- the way that a script says
abbrev pub way_of : Said → Way
way_of Said.Take = Take
way_of Said.Join = Join

-- each request, its line, and the lists before and after it
abbrev pub Answered : Request → List (List ℕ) → List (List ℕ) → List ℕ → Type 0
Answered (Open n) ls ls₁ text = OpenTold n ls ls₁ text
Answered (Comes i n) ls ls₁ text = PassTold i (comes n) ls ls₁ text
Answered (Goes i n) ls ls₁ text = PassTold i (goes n) ls ls₁ text
Answered (Ask i j w) ls ls₁ text = AskTold i j (way_of w) ls ls₁ text
Answered (Request.List i) ls ls₁ text = ListTold i ls text × (ls₁ ≡ ls)
Answered (Letter i m) ls ls₁ text = LetterTold i m ls text × (ls₁ ≡ ls)
