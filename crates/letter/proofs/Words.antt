-- Letters and lists in slices: from facts on single words to what the whole slice says.
use Rattle.std.proofs.Common.{◌≡◌, ℕ, zero, suc, ◌+◌, ◌-◌, ◌<◌, ◌≤◌, true, List, [], ◌∷◌, ◌++◌, length, get_or, take, drop, set, sym, refl, ap, ◌∙◌, subst, arith, below_more, Ok, Err, Result, MatchResult}
use Rattle.std.proofs.lemmas.List.{append_assoc, set-append_right, take_all, take_more, drop_more, drop-drop, length-take-le, length-drop, take_rest, get_or-take, get_or-drop}
use Rattle.std.proofs.lemmas.Bool.Decides.{nat_tests}
use Rattle.sorted.specs.Lists.{rising, all_below}
use Rattle.sorted.specs.Faults.{Fine, FineTo, FirstFault, Faultless}
use Rattle.sorted.proofs.Faults.{fine_at}
use Rattle.letter.specs.Rows.{numbers}
use Rattle.letter.specs.Letters.{letter_of}
use Rattle.letter.specs.declared.letters.Letter.{Letter}
use Rattle.letter.specs.Slices.{letter_in, list_in, ValueFine, ValuesTo, ValueFault, LetterFine, LetterFineTo, LetterFault, LetterSound, ListFine, ListFineTo, ListFault, ListSound}

-- values
pub values_none : (p : ℕ) (xs : List ℕ) → ValuesTo p xs 0
unfolding ValuesTo
values_none p xs k below = absurd (omega arith)

pub values_more : (p : ℕ) (xs : List ℕ) (i : ℕ) → ValuesTo p xs i → ValueFine p xs i → ValuesTo p xs (i + 1)
unfolding ValuesTo
values_more p xs i before here = below_more (ValueFine p xs) i before here

pub values_length : (p : ℕ) (xs : List ℕ) (m : ℕ) → ValuesTo p xs m → m ≤ length xs
unfolding ValuesTo
values_length p xs zero each = omega arith
values_length p xs (suc m) each = (each m (omega arith)).0

pub values_below : (p : ℕ) (xs : List ℕ) (m : ℕ) → ValuesTo p xs m → all_below p (take m xs) ≡ true
unfolding ValuesTo all_below
values_below p xs zero each = refl
values_below p [] (suc m) each = refl
values_below p (x ∷ xs) (suc m) each =
    let later =
    values_below p xs m
    (λ k below. let f = each (suc k) (omega arith) in (omega (arith, f.0), f.1)) in
    let here = (each 0 (omega arith)).1 in
    grind (arith, nat_tests)

pub values_from_below : (p : ℕ) (xs : List ℕ) (m : ℕ) → m ≤ length xs → all_below p (take m xs) ≡ true → ValuesTo p xs m
unfolding ValuesTo all_below
values_from_below p xs zero there low k below = absurd (omega arith)
values_from_below p [] (suc m) there low k below = absurd (omega arith)
values_from_below p (x ∷ xs) (suc m) there low zero below = (omega arith, grind (arith, nat_tests))
values_from_below p (x ∷ xs) (suc m) there low (suc k) below =
    let later = values_from_below p xs m (omega arith) (grind (arith, nat_tests)) k (omega arith) in
    (omega (arith, later.0), later.1)

-- letters: a value at place k of the words after the first two stands at place 2 + k of the letter
value_in_letter : (p : ℕ) (xs : List ℕ) (k : ℕ) → ValueFine p (drop 2 xs) k → LetterFine p xs (suc (suc k))
value_in_letter p [] k f = absurd (omega (arith, f.0))
value_in_letter p (x ∷ []) k f = absurd (omega (arith, f.0))
value_in_letter p (x ∷ y ∷ ys) k f = (omega (arith, f.0), f.1)

letter_in_value : (p : ℕ) (xs : List ℕ) (k : ℕ) → LetterFine p xs (suc (suc k)) → ValueFine p (drop 2 xs) k
letter_in_value p [] k f = absurd (omega (arith, f.0))
letter_in_value p (x ∷ []) k f = absurd (omega (arith, f.0))
letter_in_value p (x ∷ y ∷ ys) k f = (omega (arith, f.0), f.1)

letter_each : (p : ℕ) (xs : List ℕ) (n : ℕ)
    → LetterFine p xs 0
    → LetterFine p xs 1
    → ValuesTo p (drop 2 xs) n
    → LetterFineTo p xs (2 + n)
unfolding ValuesTo LetterFineTo
letter_each p xs n first second values zero below = first
letter_each p xs n first second values (suc zero) below = second
letter_each p xs n first second values (suc (suc k)) below = value_in_letter p xs k (values k (omega arith))

pub letter_sound : (p : ℕ) (xs : List ℕ)
    → LetterFine p xs 0
    → LetterFine p xs 1
    → ValuesTo p (drop 2 xs) (get_or xs 0 0)
    → LetterSound p xs
letter_sound p xs first second values =
    let there = values_length p (drop 2 xs) (get_or xs 0 0) values in
    record {
      each = letter_each p xs (get_or xs 0 0) first second values;
      few = first.1;
      fewer = first.2;
      there = omega (arith, there, length-drop 2 xs, second.0);
      count = second.1;
      values = values_below p (drop 2 xs) (get_or xs 0 0) values;
    }

-- the same from the tests of the whole slice
pub letter_sound_from : (p : ℕ) (xs : List ℕ)
    → get_or xs 0 0 ≤ 64
    → get_or xs 0 0 < p
    → 2 + get_or xs 0 0 ≤ length xs
    → get_or xs 1 0 ≤ p
    → all_below p (take (get_or xs 0 0) (drop 2 xs)) ≡ true
    → LetterSound p xs
letter_sound_from p xs few fewer there count low =
    letter_sound p xs (omega arith, few, fewer) (omega arith, count)
    (values_from_below p (drop 2 xs) (get_or xs 0 0) (omega (arith, length-drop 2 xs)) low)

pub letter_fault_first : (p : ℕ) (xs : List ℕ) → (LetterFine p xs 0 → ⊥) → LetterFault p xs 0
unfolding LetterFineTo
letter_fault_first p xs here = record { inside = omega arith; before = λ k below. absurd (omega arith); here = here }

pub letter_fault_second : (p : ℕ) (xs : List ℕ) → LetterFine p xs 0 → (LetterFine p xs 1 → ⊥) → LetterFault p xs 1
unfolding LetterFineTo
letter_fault_second p xs first here = record { inside = omega arith; before = before; here = here }
  where
    before : LetterFineTo p xs 1
    before zero below = first
    before (suc k) below = absurd (omega arith)

pub letter_fault_value : (p : ℕ) (xs : List ℕ) (i : ℕ)
    → LetterFine p xs 0
    → LetterFine p xs 1
    → ValueFault p (drop 2 xs) (get_or xs 0 0) i
    → LetterFault p xs (2 + i)
letter_fault_value p xs i first second fault =
    let up : 2 + i ≡ suc (suc i) = omega arith in
    record {
      inside = omega (arith, fault.inside);
      before = letter_each p xs i first second fault.before;
      here = λ f. fault.here (letter_in_value p xs i (subst (λ (k : ℕ). LetterFine p xs k) up f));
    }

-- the words after the first, as a reader cuts them off
abbrev pub after : List ℕ → List ℕ
after xs = take (length xs - 1) (drop 1 xs)

pub length_after : (xs : List ℕ) → length (after xs) ≡ length xs - 1
length_after xs = ap (λ (ys : List ℕ). length ys) (take_rest xs 1) ∙ length-drop 1 xs

pub count_is : (xs : List ℕ) → get_or (after xs) 0 0 ≡ get_or xs 1 0
count_is xs = ap (λ (ys : List ℕ). get_or ys 0 0) (take_rest xs 1) ∙ get_or-drop 1 xs 0 0

pub values_are : (xs : List ℕ) → after (after xs) ≡ drop 2 xs
values_are xs = take_rest (after xs) 1 ∙ ap (λ (ys : List ℕ). drop 1 ys) (take_rest xs 1) ∙ drop-drop 1 1 xs

-- a letter that is sound has no place at fault
pub letter_never_both : (p : ℕ) (xs : List ℕ) (i : ℕ) → LetterSound p xs → LetterFault p xs i → ⊥
unfolding LetterFineTo
letter_never_both p xs i sound fault = fault.here (sound.each i fault.inside)

pub letter_says : {p : ℕ} (xs : List ℕ) (l : Letter p)
    → l.count ≡ get_or xs 1 0
    → numbers l.values ≡ take (get_or xs 0 0) (drop 2 xs)
    → letter_of l ≡ letter_in xs
unfolding letter_of
letter_says xs l count values = cc

-- lists: a number at place k of the words after the first stands at place 1 + k of the list
number_in_list : (b : ℕ) (xs : List ℕ) (n k : ℕ)
    → k < n
    → n ≤ length (drop 1 xs)
    → Fine b (take n (drop 1 xs)) k
    → ListFine b xs (suc k)
number_in_list b [] n k below inside f = absurd (omega arith)
number_in_list b (x ∷ ys) n zero below inside f = (omega arith, omega (arith, f.0, get_or-take n ys 0 0 below))
number_in_list b (x ∷ ys) n (suc k) below inside f =
    let down : suc k - 1 ≡ k = omega arith in
    let here = get_or-take n ys (suc k) 0 below in
    let last = get_or-take n ys k 0 (omega arith) in
    let rise : get_or (take n ys) k 0 < get_or (take n ys) (suc k) 0 = rw down at (f.1 (omega arith)) in
    (omega arith, omega (arith, f.0), omega arith)

list_in_number : (b : ℕ) (xs : List ℕ) (n k : ℕ) → k < n → ListFine b xs (suc k) → Fine b (take n (drop 1 xs)) k
list_in_number b [] n zero below f = absurd (omega (arith, f.0))
list_in_number b [] n (suc k) below f = absurd (omega (arith, f.0))
list_in_number b (x ∷ ys) n zero below f = (omega (arith, f.1, get_or-take n ys 0 0 below), λ above. absurd (omega arith))
list_in_number b (x ∷ ys) n (suc k) below f =
    let down : suc k - 1 ≡ k = omega arith in
    let here = get_or-take n ys (suc k) 0 below in
    let last = get_or-take n ys k 0 (omega arith) in
    let rise : get_or (take n ys) k 0 < get_or (take n ys) (suc k) 0 = omega (arith, f.2) in
    (omega (arith, f.1), λ above. rw down rise)

list_each : (b : ℕ) (xs : List ℕ) (n i : ℕ)
    → 0 < length xs
    → n ≤ length (drop 1 xs)
    → i ≤ n
    → FineTo b (take n (drop 1 xs)) i
    → ListFineTo b xs (1 + i)
unfolding FineTo ListFineTo
list_each b xs n i first inside within fine zero below = first
list_each b xs n i first inside within fine (suc k) below =
    number_in_list b xs n k (omega arith) inside (fine k (omega arith))

pub list_sound : (b : ℕ) (xs : List ℕ)
    → 0 < length xs
    → get_or xs 0 0 ≤ length (drop 1 xs)
    → Faultless b (list_in xs)
    → ListSound b xs
list_sound b xs first inside fine =
    let size : length (list_in xs) ≡ get_or xs 0 0 = length-take-le (get_or xs 0 0) (drop 1 xs) inside in
    record {
      each =
          list_each b xs (get_or xs 0 0) (get_or xs 0 0) first inside (omega arith)
          (subst (λ (n : ℕ). FineTo b (list_in xs) n) size fine.each);
      there = omega (arith, length-drop 1 xs);
      rises = fine.rises;
      below = fine.below;
    }

-- the same from the tests of the whole slice
pub list_sound_from : (b : ℕ) (xs : List ℕ)
    → 1 + get_or xs 0 0 ≤ length xs
    → rising (list_in xs) ≡ true
    → all_below b (list_in xs) ≡ true
    → ListSound b xs
unfolding FineTo
list_sound_from b xs there rises low =
    list_sound b xs (omega arith) (omega (arith, length-drop 1 xs))
    (record { rises = rises; below = low; each = λ k below. fine_at b (list_in xs) k below rises low })

pub list_fault_first : (b : ℕ) (xs : List ℕ) → length xs ≤ 0 → ListFault b xs 0
unfolding ListFineTo
list_fault_first b xs none =
    record { inside = omega arith; before = λ k below. absurd (omega arith); here = λ (f : 0 < length xs). omega arith }

pub list_fault_number : (b : ℕ) (xs : List ℕ) (n i : ℕ)
    → 0 < length xs
    → n ≤ length (drop 1 xs)
    → n ≤ get_or xs 0 0
    → FirstFault b (take n (drop 1 xs)) i
    → ListFault b xs (1 + i)
list_fault_number b xs n i first inside spoken fault =
    let within : i < n = omega (arith, fault.inside, length-take-le n (drop 1 xs) inside) in
    let up : 1 + i ≡ suc i = omega arith in
    record {
      inside = omega arith;
      before = list_each b xs n i first inside (omega arith) fault.before;
      here = λ f. fault.here (list_in_number b xs n i within (subst (λ (k : ℕ). ListFine b xs k) up f));
    }

-- a list that is cut short is at fault at its end
list_ends : (b : ℕ) (xs : List ℕ) (i : ℕ) → length xs ≤ i → ListFine b xs i → ⊥
list_ends b xs zero past f = omega arith
list_ends b xs (suc zero) past f = omega (arith, f.0)
list_ends b xs (suc (suc k)) past f = omega (arith, f.0)

pub list_fault_missing : (b : ℕ) (xs : List ℕ) (n : ℕ)
    → 0 < length xs
    → n ≡ length (drop 1 xs)
    → n < get_or xs 0 0
    → Faultless b (take n (drop 1 xs))
    → ListFault b xs (length xs)
list_fault_missing b xs n first all more fine =
    let size : length (take n (drop 1 xs)) ≡ n = length-take-le n (drop 1 xs) (omega arith) in
    let whole : 1 + n ≡ length xs = omega (arith, length-drop 1 xs) in
    record {
      inside = omega arith;
      before =
          subst (λ (k : ℕ). ListFineTo b xs k) whole
          (list_each b xs n n first (omega arith) (omega arith)
          (subst (λ (k : ℕ). FineTo b (take n (drop 1 xs)) k) size fine.each));
      here = list_ends b xs (length xs) (omega arith);
    }

pub list_never_both : (b : ℕ) (xs : List ℕ) (i : ℕ) → ListSound b xs → ListFault b xs i → ⊥
unfolding ListFineTo
list_never_both b xs i sound fault = fault.here (sound.each i fault.inside)

-- writing: the first i of vs stand at the beginning of xs, and one more
pub written_more : (vs xs now : List ℕ) (i y : ℕ)
    → now ≡ take i vs ++ drop i xs
    → i < length xs
    → i < length vs
    → y ≡ get_or vs i 0
    → set now i y ≡ take (i + 1) vs ++ drop (i + 1) xs
written_more vs xs now i y before inside there is =
    let none : i - i ≡ 0 = omega arith in
    ap (λ t. set t i y) before
    ∙ set-append_right (take i vs) (drop i xs) i i y (length-take-le i vs (omega arith)) (omega arith)
    ∙ ap (λ t. take i vs ++ set (drop i xs) t y) none
    ∙ ap (λ t. take i vs ++ set t 0 y) (drop_more xs i 0 inside)
    ∙ sym (append_assoc (take i vs) (y ∷ []) (drop (i + 1) xs))
    ∙ ap (λ t. (take i vs ++ t ∷ []) ++ drop (i + 1) xs) is
    ∙ ap (λ t. t ++ drop (i + 1) xs) (sym (take_more vs i 0 there))

pub written_all : (vs xs now : List ℕ) (i n : ℕ)
    → now ≡ take i vs ++ drop i xs
    → i ≡ n
    → length vs ≡ n
    → now ≡ vs ++ drop n xs
written_all vs xs now i n before ended all =
    before ∙ ap (λ t. take t vs ++ drop t xs) ended ∙ ap (λ t. t ++ drop n xs) (take_all n vs (omega arith))

-- what a call told of its own answer, where `map_err` passed it on
pub ok_passed_on : {T E : Type 0} (D : Type 0) (P : T → Type 0) (Q : E → Type 0) (r : Result T E) (x : T)
    → MatchResult r (λ y. ◌≡◌ {A = Result T D} (Ok x) (Ok y)) (λ _. ⊥)
    → MatchResult r P Q
    → P x
ok_passed_on D P Q (Ok y) x same told = let e : x ≡ y = cc in subst P (sym e) told
ok_passed_on D P Q (Err e) x none told = absurd none

pub err_passed_on : {T E D : Type 0} (P : T → Type 0) (Q R : E → Type 0) (r : Result T E) (d : D)
    → MatchResult r (λ y. ◌≡◌ {A = Result T D} (Err d) (Ok y)) R
    → MatchResult r P Q
    → (e : E) × R e × Q e
err_passed_on P Q R (Ok y) d none told = let e : ◌≡◌ {A = ℕ} 0 1 = cc in absurd (omega arith)
err_passed_on P Q R (Err e) d made told = (e, made, told)
