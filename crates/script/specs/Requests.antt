-- Requests, and the lines that say them. Assumes nothing: these are definitions.
--
--   words_of q         the words that say a request: "ask", "0", "1", "take". A number is written in decimal, with no zero before it
--   text_of q          those words with a space between two: "ask 0 1 take"
--   InRange q          its numbers are below 2^64
--   Understood bs r    r is what the line bs says: the request with the words of bs, whatever blanks are around them, or None where no request has these words
use Rattle.std.specs.Prelude.{◌≡◌, ℕ, List, [], ◌∷◌, ◌++◌, Some, codes, decimal, Option}
use Rattle.script.specs.Reads.{Fits, Reads}
use Rattle.script.specs.Words.{words}
use Rattle.script.specs.declared.Request.{Request}
use Rattle.script.specs.declared.Request.TheVariants.{Open, Comes, Goes, Ask, Letter}
use Rattle.script.specs.declared.Way.{Way}
use Rattle.script.specs.declared.Way.TheVariants.{Take, Join}

abbrev pub way_word : Way → List ℕ
way_word Take = codes "take"
way_word Join = codes "join"

abbrev pub words_of : Request → List (List ℕ)
words_of (Open n) = codes "open" ∷ decimal n ∷ []
words_of (Comes i n) = codes "comes" ∷ decimal i ∷ decimal n ∷ []
words_of (Goes i n) = codes "goes" ∷ decimal i ∷ decimal n ∷ []
words_of (Ask i j w) = codes "ask" ∷ decimal i ∷ decimal j ∷ way_word w ∷ []
words_of (Request.List i) = codes "list" ∷ decimal i ∷ []
words_of (Letter i m) = codes "letter" ∷ decimal i ∷ decimal m ∷ []

abbrev pub InRange : Request → Type 0
InRange (Open n) = Fits n
InRange (Comes i n) = Fits i × Fits n
InRange (Goes i n) = Fits i × Fits n
InRange (Ask i j w) = Fits i × Fits j
InRange (Request.List i) = Fits i
InRange (Letter i m) = Fits i × Fits m

-- each word after a space
unfoldable pub after_spaces : List (List ℕ) → List ℕ
after_spaces [] = []
after_spaces (w ∷ ws) = 32 ∷ (w ++ after_spaces ws)

unfoldable pub spaced : List (List ℕ) → List ℕ
spaced [] = []
spaced (w ∷ ws) = w ++ after_spaces ws

unfoldable pub text_of : Request → List ℕ
text_of q = spaced (words_of q)

pub record Understood (line : List ℕ) (r : Option Request) : Type 0 where
  pub says : Reads InRange words_of (words line) r
  -- so what is written as a request's text is understood as that request, and no two requests have one text
  pub written : (q : Request) → InRange q → line ≡ text_of q → r ≡ Some q
