-- Words at the front of a line.
use Rattle.std.proofs.Common.{◌≡◌, ℕ, Option, Some, None, ◌<◌, ◌≤◌, Bool, true, false, not, List, [], ◌∷◌, ◌++◌, length, get_or, take, drop, All, sym, refl, ap, ◌∙◌, subst, ⊎_elim, append_assoc, add-zero, arith}
use Rattle.std.proofs.lemmas.List.Elements.{All-from_get_or, All-head, All-tail}
use Rattle.std.proofs.lemmas.Grind.{common_steps}
use Rattle.std.proofs.lemmas.List.Sums.{fails_before_first, passes_at_first, prefix_len-le-length}
use Rattle.std.proofs.lemmas.List.{append-nil, drop_all, get_or-drop, get_or-take, length-drop, length-take-le, nil_from_length, take-append-drop, take_all}
use Rattle.std.proofs.lemmas.Bool.{cases_eq, cond-true, cond-false, false_from_ne_true, true_from_ne_false, not-false, not-true, false≢true}
use Rattle.std.specs.List.{position, position_or_len}
use Rattle.std.specs.Option.{unwrap_or}
use Rattle.script.specs.Words.{blank, cut, words}

-- each byte is a blank, or none is
abbrev pub Alike : Bool → List ℕ → Type 0
Alike t w = All (λ b. blank b ≡ t) w

-- the end of the line, or a blank
abbrev pub Ended : List ℕ → Type 0
Ended [] = Unit {0}
Ended (b ∷ bs) = blank b ≡ true

-- how many bytes at the front are blanks, and how many are not
abbrev pub blanks : List ℕ → ℕ
blanks bs = position_or_len (λ b. not (blank b)) bs

abbrev pub solids : List ℕ → ℕ
solids bs = position_or_len blank bs

cut_through : (w v rest : List ℕ) → Alike false w → cut v (w ++ rest) ≡ cut (v ++ w) rest
unfolding cut
cut_through [] v rest none = ap (λ t. cut t rest) (sym (append-nil v))
cut_through (b ∷ w) v rest none =
    cond-false (blank b) _ _ (All-head (λ b. blank b ≡ false) b w none)
    ∙ cut_through w (v ++ b ∷ []) rest (All-tail (λ b. blank b ≡ false) b w none)
    ∙ ap (λ t. cut t rest) (append_assoc v (b ∷ []) w)

cut_end : (b : ℕ) (w rest : List ℕ) → Ended rest → cut (b ∷ w) rest ≡ (b ∷ w) ∷ cut [] rest
unfolding cut
cut_end b w [] end = refl
cut_end b w (c ∷ rest) end =
    cond-true (blank c) _ _ end ∙ ap (λ t. (b ∷ w) ∷ t) (sym (cond-true (blank c) _ _ end))

pub words_none : words [] ≡ []
unfolding cut words
words_none = refl

pub words_front : (w rest : List ℕ) → 0 < length w → Alike false w → Ended rest → words (w ++ rest) ≡ w ∷ words rest
unfolding words
words_front [] rest some none end = absurd (omega arith)
words_front (b ∷ w) rest some none end = cut_through (b ∷ w) [] rest none ∙ cut_end b w rest end

pub words_blanks : (w rest : List ℕ) → Alike true w → words (w ++ rest) ≡ words rest
unfolding cut words
words_blanks [] rest all = refl
words_blanks (b ∷ w) rest all =
    cond-true (blank b) _ _ (All-head (λ b. blank b ≡ true) b w all)
    ∙ words_blanks w rest (All-tail (λ b. blank b ≡ true) b w all)

pub alike_front : (t : Bool) (bs : List ℕ) (n : ℕ) → n ≤ length bs →
    ((k : ℕ) → k < n → blank (get_or bs k 0) ≡ t) → Alike t (take n bs)
alike_front t bs n within before =
    All-from_get_or (λ b. blank b ≡ t) (take n bs) 0
    (λ i inside.
    let low : i < n = omega (arith, length-take-le n bs within) in
    ap blank (get_or-take n bs i 0 low) ∙ before i low)

pub after_blanks : (bs : List ℕ) (n : ℕ) → n ≤ length bs →
    ((k : ℕ) → k < n → blank (get_or bs k 0) ≡ true) → words bs ≡ words (drop n bs)
after_blanks bs n within before =
    ap words (sym (take-append-drop n bs)) ∙ words_blanks (take n bs) (drop n bs) (alike_front true bs n within before)

pub no_words : (bs : List ℕ) → length bs ≡ 0 → words bs ≡ []
no_words bs empty = ap words (nil_from_length bs empty) ∙ words_none

ended_at : (rest : List ℕ) → (0 < length rest → blank (get_or rest 0 0) ≡ true) → Ended rest
ended_at [] end = tt
ended_at (b ∷ rest) end = end (omega arith)

-- a text that does not begin with a blank, and as many bytes of it as are none
pub first_word : (bs : List ℕ) (n : ℕ) → n ≤ length bs → 0 < length bs → (blank (get_or bs 0 0) ≡ true → ⊥) →
    ((k : ℕ) → k < n → blank (get_or bs k 0) ≡ false) →
    (n < length bs → blank (get_or bs n 0) ≡ false → ⊥) →
    words bs ≡ take n bs ∷ words (drop n bs)
first_word bs n within some word before over =
    let size = length-take-le n bs within in
    let not_none : 0 < n =
    ⊎_elim
    (λ z. absurd (over (omega arith) (false_from_ne_true _ (λ t. word (ap (λ k. blank (get_or bs k 0)) (sym z) ∙ t)))))
    (λ nz. omega arith)
    (cases_eq n 0) in
    ap words (sym (take-append-drop n bs))
    ∙ words_front (take n bs) (drop n bs) (omega (arith, size))
    (alike_front false bs n within before)
    (ended_at (drop n bs)
    (λ more.
    ap blank (get_or-drop n bs 0 0 ∙ ap (λ k. get_or bs k 0) (add-zero n))
    ∙ true_from_ne_false _ (over (omega (arith, more, length-drop n bs)))))

pub begins_word : (bs text : List ℕ) (n : ℕ) → text ≡ drop n bs → 0 < length text →
    (n < length bs → blank (get_or bs n 0) ≡ true → ⊥) → blank (get_or text 0 0) ≡ true → ⊥
begins_word bs text n is some over first =
    let same : get_or text 0 0 ≡ get_or bs n 0 =
    ap (λ t. get_or t 0 0) is ∙ get_or-drop n bs 0 0 ∙ ap (λ k. get_or bs k 0) (add-zero n) in
    over (omega (arith, ap length is, length-drop n bs)) (ap blank (sym same) ∙ first)

-- the same at the places that a search finds: all blanks at the front, and the bytes up to the next blank
after_all_blanks : (bs : List ℕ) → words bs ≡ words (drop (blanks bs) bs)
after_all_blanks bs =
    after_blanks bs (blanks bs) (prefix_len-le-length (λ b. not (not (blank b))) bs)
    (λ k low. not-false _ (fails_before_first (λ b. not (blank b)) bs k 0 low))

-- a text of which each byte is a blank has no words
no_word_in : (bs : List ℕ) → length bs ≤ blanks bs → words bs ≡ []
no_word_in bs all = after_all_blanks bs ∙ ap words (drop_all (blanks bs) bs all) ∙ words_none

-- a text with a byte that is no blank begins with a word, from there to the next blank
word_after_blanks : (bs rest : List ℕ) → blanks bs < length bs → rest ≡ drop (blanks bs) bs →
    words bs ≡ take (solids rest) rest ∷ words (drop (solids rest) rest)
word_after_blanks bs rest inside is =
    let some : 0 < length rest = omega (arith, ap length is, length-drop (blanks bs) bs) in
    after_all_blanks bs
    ∙ ap words (sym is)
    ∙ first_word rest (solids rest) (prefix_len-le-length (λ b. not (blank b)) rest) some
    (begins_word bs rest (blanks bs) is some
    (λ more e. false≢true (sym (not-true _ (passes_at_first (λ b. not (blank b)) bs 0 more)) ∙ e)))
    (λ k low. fails_before_first blank rest k 0 low)
    (λ more e. false≢true (sym e ∙ passes_at_first blank rest 0 more))

-- what a search by a test tells of the first place where it passes
missed : (p : ℕ → Bool) (bs : List ℕ) → None ≡ position p bs → length bs ≤ position_or_len p bs
missed p bs none = grind (arith, common_steps)

found : (p : ℕ → Bool) (bs : List ℕ) (i : ℕ) → Some i ≡ position p bs → (position_or_len p bs ≡ i) × (i < length bs)
found p bs i is = grind (arith, common_steps)

or_length : (p : ℕ → Bool) (bs : List ℕ) (r : Option ℕ) → r ≡ position p bs → position_or_len p bs ≡ unwrap_or r (length bs)
or_length p bs None is = omega (arith, missed p bs is, prefix_len-le-length (λ b. not (p b)) bs)
or_length p bs (Some i) is = (found p bs i is).0

-- the words of a text, from the places where its first word begins and ends, if there is one
pub none_begins : (bs : List ℕ) → None ≡ position (λ b. not (blank b)) bs → words bs ≡ []
none_begins bs none = no_word_in bs (missed (λ b. not (blank b)) bs none)

pub word_between : (bs rest : List ℕ) (i n : ℕ) (r : Option ℕ) → Some i ≡ position (λ b. not (blank b)) bs → rest ≡ drop i bs →
    r ≡ position blank rest → n ≡ unwrap_or r (length rest) → words bs ≡ take n rest ∷ words (drop n rest)
word_between bs rest i n r begins is ends at =
    let start = found (λ b. not (blank b)) bs i begins in
    let end : solids rest ≡ n = or_length blank rest r ends ∙ sym at in
    subst (λ k. words bs ≡ take k rest ∷ words (drop k rest)) end
    (word_after_blanks bs rest (omega (arith, start.0, start.1)) (is ∙ ap (λ k. drop k bs) (sym start.0)))

-- where the first word ends with the text
pub last_word : (bs rest : List ℕ) (i : ℕ) → Some i ≡ position (λ b. not (blank b)) bs → rest ≡ drop i bs → None ≡ position blank rest →
    words bs ≡ rest ∷ words []
last_word bs rest i begins is none =
    word_between bs rest i (length rest) None begins is none refl
    ∙ ap (λ w. w ∷ words (drop (length rest) rest)) (take_all (length rest) rest (omega arith))
    ∙ ap (λ t. rest ∷ words t) (drop_all (length rest) rest (omega arith))
