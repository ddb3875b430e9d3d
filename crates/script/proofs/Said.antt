-- The words of requests: which request they are of, and that its text has them.
use Rattle.std.proofs.Common.{◌≡◌, ℕ, ◌+◌, ◌<◌, Bool, true, false, cond, not, ◌&&◌, eqb, ltb, List, [], ◌∷◌, ◌++◌, length, drop, get_or, Some, None, codes, decimal, All, Option, sym, refl, ap, ◌∙◌, subst, arith}
use Rattle.std.proofs.lemmas.Fmt.{decimal_is_IsNumeral, decimal_nonempty}
use Rattle.std.proofs.lemmas.List.Elements.{All-cons, All-head, All-nil, All-tail}
use Rattle.std.proofs.lemmas.Bool.{and_parts, ltb-true, not-true}
use Rattle.std.specs.Str.Parse.{digits_value}
use Rattle.std.specs.Option.{option_map}
use Rattle.script.specs.Arguments.{FitBoth, FitTwo, pair, pair_and_way, single}
use Rattle.script.specs.Reads.{Fits, Reads}
use Rattle.script.specs.Requests.{InRange, Understood, after_spaces, spaced, text_of, way_word, words_of}
use Rattle.script.specs.Words.{blank, words}
use Rattle.script.specs.declared.Request.{Request}
use Rattle.script.specs.declared.Request.TheVariants.{Open, Comes, Goes, Ask, Letter}
use Rattle.script.specs.declared.Way.{Way}
use Rattle.script.specs.declared.Way.TheVariants.{Take, Join}
use Rattle.script.proofs.Cuts.{Alike, Ended, words_blanks, words_front, words_none}
use Rattle.script.proofs.Decimal.{solid_decimal}

-- The request that words would be of: a word is told from the others by the sum of its first two bytes.
abbrev pub key : List ℕ → ℕ
key w = get_or w 0 0 + get_or w 1 0

abbrev pub way_from : List ℕ → Way
way_from w = cond (eqb (key w) (key (codes "take"))) Take Join

abbrev pub of_kind : ℕ → ℕ → ℕ → Way → Request
of_kind k a b w =
    cond (eqb k (key (codes "open"))) (Open a)
    (cond (eqb k (key (codes "comes"))) (Comes a b)
    (cond (eqb k (key (codes "goes"))) (Goes a b)
    (cond (eqb k (key (codes "ask"))) (Ask a b w)
    (cond (eqb k (key (codes "list"))) (Request.List a) (Letter a b)))))

-- what the words after the first would say
abbrev pub pair_from : List (List ℕ) → ℕ × ℕ
pair_from ws = (digits_value 10 (get_or ws 0 []), digits_value 10 (get_or ws 1 []))

abbrev pub pair_and_way_from : List (List ℕ) → ℕ × ℕ × Way
pair_and_way_from ws = (digits_value 10 (get_or ws 0 []), digits_value 10 (get_or ws 1 []), way_from (get_or ws 2 []))

abbrev pub request_of : List (List ℕ) → Request
request_of ws =
    of_kind (key (get_or ws 0 [])) (digits_value 10 (get_or ws 1 [])) (digits_value 10 (get_or ws 2 [])) (way_from (get_or ws 3 []))

way_back : (w : Way) → way_from (way_word w) ≡ w
way_back Take = refl
way_back Join = refl

value_back : (n : ℕ) → Fits n → digits_value 10 (decimal n) ≡ n
value_back n small = (decimal_is_IsNumeral n small).1

both : (f : ℕ → ℕ → Request) {a b c d : ℕ} → a ≡ b → c ≡ d → f a c ≡ f b d
both f {b = b} {c = c} p q = ap (λ k. f k c) p ∙ ap (f b) q

request_back : (q : Request) → InRange q → request_of (words_of q) ≡ q
request_back (Open n) h = ap Open (value_back n h)
request_back (Comes i n) h = both Comes (value_back i h.0) (value_back n h.1)
request_back (Goes i n) h = both Goes (value_back i h.0) (value_back n h.1)
request_back (Ask i j w) h =
    both (λ a b. Ask a b (way_from (way_word w))) (value_back i h.0) (value_back j h.1) ∙ ap (Ask i j) (way_back w)
request_back (Request.List i) h = ap Request.List (value_back i h)
request_back (Letter i m) h = both Letter (value_back i h.0) (value_back m h.1)

-- words of a request are those of the request that they would be of
pub record OfThat (ws : List (List ℕ)) (q : Request) : Type 0 where
  pub range : InRange q
  pub is : ws ≡ words_of q

pub of_that : (ws : List (List ℕ)) (q : Request) → InRange q → ws ≡ words_of q → OfThat ws (request_of ws)
of_that ws q small is =
    let same : q ≡ request_of ws = sym (request_back q small) ∙ ap request_of (sym is) in
    subst (λ t. OfThat ws t) same (record { range = small; is = is })

pub one_request : (q s : Request) → InRange q → InRange s → words_of q ≡ words_of s → q ≡ s
one_request q s q-small s-small same = sym (request_back q q-small) ∙ ap request_of same ∙ request_back s s-small

-- the words of a request are words, with no blank in them
abbrev Word : List ℕ → Type 0
Word w = (0 < length w) × Alike false w

decimal_word : (n : ℕ) → Fits n → Word (decimal n)
decimal_word n small = (decimal_nonempty n small, solid_decimal n small)

abbrev solid : List ℕ → Bool
solid [] = true
solid (b ∷ w) = not (blank b) && solid w

alike_solid : (w : List ℕ) → solid w ≡ true → Alike false w
alike_solid [] whole = All-nil (λ b. blank b ≡ false)
alike_solid (b ∷ w) whole =
    let parts = and_parts (not (blank b)) (solid w) whole in
    All-cons (λ b. blank b ≡ false) b w (not-true (blank b) parts.0) (alike_solid w parts.1)

literal : (w : List ℕ) → (ltb 0 (length w) && solid w) ≡ true → Word w
literal w is =
    let parts = and_parts (ltb 0 (length w)) (solid w) is in
    (ltb-true 0 (length w) parts.0, alike_solid w parts.1)

way_is_word : (w : Way) → Word (way_word w)
way_is_word Take = literal (codes "take") refl
way_is_word Join = literal (codes "join") refl

-- words one after the other, a record so that antt tells them from such a fact
record AllWords (ws : List (List ℕ)) : Type 0 where
  pub each : All Word ws

no_words : AllWords []
no_words = record { each = All-nil Word }

and_word : (w : List ℕ) {ws : List (List ℕ)} → Word w → AllWords ws → AllWords (w ∷ ws)
and_word w {ws} first rest = record { each = All-cons Word w ws first rest.each }

and_numeral : (n : ℕ) {ws : List (List ℕ)} → Fits n → AllWords ws → AllWords (decimal n ∷ ws)
and_numeral n small rest = and_word (decimal n) (decimal_word n small) rest

all_words : (q : Request) → InRange q → AllWords (words_of q)
all_words (Open n) h = and_word (codes "open") (literal (codes "open") refl) (and_numeral n h no_words)
all_words (Comes i n) h =
    and_word (codes "comes") (literal (codes "comes") refl) (and_numeral i h.0 (and_numeral n h.1 no_words))
all_words (Goes i n) h =
    and_word (codes "goes") (literal (codes "goes") refl) (and_numeral i h.0 (and_numeral n h.1 no_words))
all_words (Ask i j w) h =
    and_word (codes "ask") (literal (codes "ask") refl)
    (and_numeral i h.0 (and_numeral j h.1 (and_word (way_word w) (way_is_word w) no_words)))
all_words (Request.List i) h = and_word (codes "list") (literal (codes "list") refl) (and_numeral i h no_words)
all_words (Letter i m) h =
    and_word (codes "letter") (literal (codes "letter") refl) (and_numeral i h.0 (and_numeral m h.1 no_words))

after_spaces_ends : (ws : List (List ℕ)) → Ended (after_spaces ws)
unfolding after_spaces
after_spaces_ends [] = tt
after_spaces_ends (w ∷ ws) = refl

words_after : (ws : List (List ℕ)) → All Word ws → words (after_spaces ws) ≡ ws
unfolding after_spaces
words_after [] all = words_none
words_after (w ∷ ws) all =
    let first : Word w = All-head Word w ws all in
    words_blanks (32 ∷ []) (w ++ after_spaces ws) (All-cons (λ b. blank b ≡ true) 32 [] refl (All-nil (λ b. blank b ≡ true)))
    ∙ words_front w (after_spaces ws) first.0 first.1 (after_spaces_ends ws)
    ∙ ap (λ t. w ∷ t) (words_after ws (All-tail Word w ws all))

words_spaced : (ws : List (List ℕ)) → All Word ws → words (spaced ws) ≡ ws
unfolding spaced
words_spaced [] all = words_none
words_spaced (w ∷ ws) all =
    let first : Word w = All-head Word w ws all in
    words_front w (after_spaces ws) first.0 first.1 (after_spaces_ends ws)
    ∙ ap (λ t. w ∷ t) (words_after ws (All-tail Word w ws all))

pub words_text : (q : Request) → InRange q → words (text_of q) ≡ words_of q
unfolding text_of
words_text q small = words_spaced (words_of q) (all_words q small).each

-- what is written as a request's text is read as that request
read_back : (line : List ℕ) (r : Option Request) → Reads InRange words_of (words line) r →
    (q : Request) → InRange q → line ≡ text_of q → r ≡ Some q
read_back line None no_one q small is = absurd (no_one q small (ap words is ∙ words_text q small))
read_back line (Some s) said q small is =
    ap Some (one_request s q said.0 small (sym said.1 ∙ ap words is ∙ words_text q small))

pub understood : (line : List ℕ) (r : Option Request) → Reads InRange words_of (words line) r → Understood line r
understood line r said = record { says = said; written = read_back line r said }

-- requests of a kind: their first word, and what is written after it
pub record Kind {A : Type 0} (w : List ℕ) (Fine : A → Type 0) (write : A → List (List ℕ)) (make : A → Request) : Type 0 where
  range : (a : A) → Fine a → InRange (make a)
  says : (a : A) → words_of (make a) ≡ w ∷ write a
  back : List (List ℕ) → A
  only : (ws : List (List ℕ)) (q : Request) → InRange q → w ∷ ws ≡ words_of q → Fine (back ws) × (ws ≡ write (back ws))

pub by_kind : {A : Type 0} {w : List ℕ} {Fine : A → Type 0} {write : A → List (List ℕ)} {make : A → Request} →
    Kind w Fine write make → (v : List ℕ) (ws : List (List ℕ)) (r : Option A) (s : Option Request) → v ≡ w →
    Reads Fine write ws r → s ≡ option_map make r → Reads InRange words_of (v ∷ ws) s
by_kind kind v ws None s is none mapped =
    rw mapped
    (λ q small e.
    let after = kind.only ws q small (ap (λ u. u ∷ ws) (sym is) ∙ e) in
    none (kind.back ws) after.0 after.1)
by_kind {w = w} kind v ws (Some a) s is read mapped =
    rw mapped
    (kind.range a read.0, ap (λ u. u ∷ ws) is ∙ ap (λ us. w ∷ us) read.1 ∙ sym (kind.says a))

pub opens : Kind (codes "open") Fits single Open
opens =
    record {
      range = λ n small. small;
      says = λ n. refl;
      back = λ ws. digits_value 10 (get_or ws 0 []);
      only = λ ws q small e. let t = of_that _ q small e in (t.range, ap (drop 1) t.is);
    }

pub lists : Kind (codes "list") Fits single Request.List
lists =
    record {
      range = λ n small. small;
      says = λ n. refl;
      back = λ ws. digits_value 10 (get_or ws 0 []);
      only = λ ws q small e. let t = of_that _ q small e in (t.range, ap (drop 1) t.is);
    }

pub comes : Kind (codes "comes") FitBoth pair (λ p. Comes p.0 p.1)
comes =
    record {
      range = λ p small. small;
      says = λ p. refl;
      back = pair_from;
      only = λ ws q small e. let t = of_that _ q small e in (t.range, ap (drop 1) t.is);
    }

pub goes : Kind (codes "goes") FitBoth pair (λ p. Goes p.0 p.1)
goes =
    record {
      range = λ p small. small;
      says = λ p. refl;
      back = pair_from;
      only = λ ws q small e. let t = of_that _ q small e in (t.range, ap (drop 1) t.is);
    }

pub letters : Kind (codes "letter") FitBoth pair (λ p. Letter p.0 p.1)
letters =
    record {
      range = λ p small. small;
      says = λ p. refl;
      back = pair_from;
      only = λ ws q small e. let t = of_that _ q small e in (t.range, ap (drop 1) t.is);
    }

pub asks : Kind (codes "ask") FitTwo pair_and_way (λ t. Ask t.0 t.1 t.2)
asks =
    record {
      range = λ t small. small;
      says = λ t. refl;
      back = pair_and_way_from;
      only = λ ws q small e. let t = of_that _ q small e in (t.range, ap (drop 1) t.is);
    }

some_words : (q : Request) → 0 < length (words_of q)
some_words (Open n) = omega arith
some_words (Comes i n) = omega arith
some_words (Goes i n) = omega arith
some_words (Ask i j w) = omega arith
some_words (Request.List i) = omega arith
some_words (Letter i m) = omega arith

pub no_word : (q : Request) → [] ≡ words_of q → ⊥
no_word q is = omega (arith, some_words q, ap length is)
