-- Words that write a number, and words that write none.
use Rattle.std.proofs.Common.{Break, Iter, Option, Some, None, ◌≡◌, ℕ, ◌+◌, ◌*◌, ◌^◌, ◌<◌, ◌≤◌, false, List, [], ◌∷◌, length, get_or, decimal, sym, refl, ap, ◌∙◌, subst, ⊎_elim, arith}
use Rattle.std.proofs.iter.Yields.{fronts}
use Rattle.std.proofs.lemmas.Fmt.{decimal_digit, decimal_is_IsNumeral, decimal_nonempty, decimal-digits_value, digits_decimal, first_decimal}
use Rattle.std.proofs.lemmas.List.{nil_from_length}
use Rattle.std.proofs.lemmas.List.Elements.{All-cons, All-nil}
use Rattle.std.proofs.lemmas.Str.Parse.{IsNumeralModel, digit_at, digit_from_value, numerals_by_value, tells_digits}
use Rattle.std.proofs.lemmas.Bool.{cases_eq}
use Rattle.std.proofs.lemmas.Bool.Decides.{nat_tests}
use Rattle.std.specs.Char.{digit_value as digitValue}
use Rattle.std.specs.ControlFlow.{continue_value}
use Rattle.std.specs.Fn.{Called}
use Rattle.std.specs.Iterator.{TryFoldTurn, TryFoldsItems, Yields}
use Rattle.std.specs.List.{FoldsTo}
use Rattle.std.specs.Option.{MatchOption, SomeIff}
use Rattle.std.specs.Str.Parse.{AllDigits, digits_value, digits_value_after}
use denote.Param.Members.{Mut}
use denote.Ref.{Bor}
use Rattle.script.specs.Reads.{Fits, Reads}
use Rattle.script.specs.Words.{blank}
use Rattle.script.proofs.Cuts.{Alike}

numerals : IsNumeralModel (AllDigits 10) (digits_value 10)
numerals = numerals_by_value (AllDigits 10) tells_digits

-- what a number's word is like
pub not_empty : (word : List ℕ) (n : ℕ) → Fits n → word ≡ decimal n → length word ≡ 0 → ⊥
not_empty word n small is empty = omega (arith, decimal_nonempty n small, ap length is)

pub no_zero_first : (word : List ℕ) (n : ℕ) → Fits n → word ≡ decimal n → 1 < length word → get_or word 0 0 ≡ 48 → ⊥
no_zero_first word n small is long zero-first =
    ⊎_elim
    (λ z. omega (arith, ap length (is ∙ ap decimal z ∙ decimal_digit 0 (omega arith))))
    (λ nz. omega (arith, first_decimal n (omega arith) small, ap (λ w. get_or w 0 0) is))
    (cases_eq n 0)

pub digit_each : (word : List ℕ) (n i : ℕ) → Fits n → word ≡ decimal n → i < length word →
    (48 ≤ get_or word i 0) × (get_or word i 0 ≤ 57)
digit_each word n i small is inside =
    digit_at word i (subst (AllDigits 10) (sym is) (digits_decimal numerals n small)) inside

-- what a byte makes of the number before it
abbrev pub Adds : ℕ → ℕ → Option ℕ → Type 0
Adds n c r = SomeIff r ((digitValue c < 10) × (n * 10 + digitValue c < 2 ^ 64)) (n * 10 + digitValue c)

-- a text ds after n, and what is left of it after m: they are digits, or not, at once, and lead to one number
record Leads (ds : List ℕ) (n : ℕ) (es : List ℕ) (m : ℕ) : Type 0 where
  to : AllDigits 10 ds → AllDigits 10 es
  from : AllDigits 10 es → AllDigits 10 ds
  same : digits_value_after 10 n ds ≡ digits_value_after 10 m es
  fits : n < 2 ^ 64 → m < 2 ^ 64

after_least : (n : ℕ) (ds : List ℕ) → n ≤ digits_value_after 10 n ds
after_least n [] = omega arith
after_least n (d ∷ ds) = omega (arith, after_least (n * 10 + digitValue d) ds)

one_more : (c n m : ℕ) (ds es : List ℕ) (k : ℕ) → Adds n c (Some m) → Leads ds m es k → Leads (c ∷ ds) n es k
one_more c n m ds es k adds more =
    record {
      to = λ all. more.to all.1;
      from = λ all. (adds.0.0, more.from all);
      same = ap (λ t. digits_value_after 10 t ds) (sym adds.1) ∙ more.same;
      fits = λ small. more.fits (omega (arith, adds.0.1, adds.1));
    }

written : (word : List ℕ) (n : ℕ) → Leads word 0 [] n → 0 < length word → (get_or word 0 0 ≡ 48 → length word ≡ 1) →
    Fits n × (word ≡ decimal n)
written word n leads some first =
    let small : n < 2 ^ 64 = leads.fits (omega arith) in (
      small,
      sym
          (ap decimal (sym leads.same)
          ∙ decimal-digits_value numerals word (leads.from tt) some first (omega (arith, small, leads.same))),
    )

not_written : (word : List ℕ) (c n : ℕ) (es : List ℕ) → Leads word 0 (c ∷ es) n → Adds n c None →
    (k : ℕ) → Fits k → word ≡ decimal k → ⊥
not_written word c n es leads none k small is =
    let digits = leads.to (subst (AllDigits 10) (sym is) (digits_decimal numerals k small)) in
    none (
      digits.0,
      omega
          (arith, leads.same, after_least (n * 10 + digitValue c) es, ap (digits_value 10) is, (decimal_is_IsNumeral k small).1),
    )

-- what `try_fold` gives of a function that adds a digit
module _ {F : Type 0} (E : Type 0) (g : Mut F (ℕ × (Bor ℕ × Unit {0})) (Option ℕ)) (f : F)
    (adds : (n : ℕ) (x : Bor ℕ) (v : Option ℕ) (q : F) → Called g f (n, (x, tt)) v q → (q ≡ f) × Adds n x.now v) where
  turns : (xs : List (Bor ℕ)) (s t : Iter ℕ) (n m : ℕ) (q : F) → Yields fronts s xs t →
      FoldsTo {P = F × ℕ} (TryFoldTurn {E = E} g (λ v r. v ≡ continue_value r)) (f, n) xs (q, m) → (q ≡ f) × Leads s.rest.now n t.rest.now m
  turns [] s t n m q yields folds = (
    sym (ap (λ p. p.0) folds),
    subst (λ u. Leads s.rest.now n u.rest.now m) yields
        (subst (λ k. Leads s.rest.now n s.rest.now k) (ap (λ p. p.1) folds)
        (record { to = λ all. all; from = λ all. all; same = refl; fits = λ small. small })),
  )
  turns (x ∷ xs) s t n m q yields folds =
      let turn = folds.1 in
      let first = adds n x turn.0 folds.0.0 turn.1 in
      let rest =
      turns xs yields.0 t folds.0.1 m q yields.2
      (subst (λ h. FoldsTo {P = F × ℕ} (TryFoldTurn {E = E} g (λ v r. v ≡ continue_value r)) (h, folds.0.1) xs (q, m)) first.0 folds.2) in (
        rest.0,
        subst (λ ds. Leads ds n t.rest.now m) (sym yields.1)
            (one_more x.now n folds.0.1 yields.0.rest.now t.rest.now m (subst (Adds n x.now) turn.2 first.1) rest.1),
      )

  -- no byte is left, or the first that is left adds nothing
  at_end : (word : List ℕ) (t u : Iter ℕ) (n : ℕ) (q : F) (o : Option (Bor ℕ)) (r : Option ℕ) → fronts t o u →
      Leads word 0 t.rest.now n → q ≡ f → 0 < length word → (get_or word 0 0 ≡ 48 → length word ≡ 1) →
      MatchOption o (r ≡ Some n)
      (λ x. (v : Option ℕ) × (h : F) × (e : E) × Called g q (n, (x, tt)) v h × (v ≡ continue_value (Break e)) × (r ≡ None)) →
      Reads Fits decimal word r
  at_end word t u n q None r last leads same some first end =
      rw end (written word n (subst (λ es. Leads word 0 es n) (nil_from_length t.rest.now last.0) leads) some first)
  at_end word t u n q (Some x) r last leads same some first end =
      let called = subst (λ p. Called g p (n, (x, tt)) end.0 end.1) same end.3 in
      rw end.5
      (not_written word x.now n u.rest.now (subst (λ es. Leads word 0 es n) last leads)
      (subst (Adds n x.now) end.4 (adds n x end.0 end.1 called).1))

  pub reads : (word : List ℕ) (s u : Iter ℕ) (r : Option ℕ) → s.rest.now ≡ word → 0 < length word → (get_or word 0 0 ≡ 48 → length word ≡ 1) →
      TryFoldsItems fronts g (λ v c. v ≡ continue_value c) (λ (e : E) v. v ≡ None) s f 0 r u → Reads Fits decimal word r
  reads word s u r is some first ran =
      let turn = turns ran.0 s ran.4.0 0 ran.3 ran.2 ran.4.1 ran.5 in
      at_end word ran.4.0 u ran.3 ran.2 ran.1 r ran.4.2 (subst (λ ds. Leads ds 0 ran.4.0.rest.now ran.3) is turn.1) turn.0 some first ran.6

not_blank : (c : ℕ) → 48 ≤ c → c ≤ 57 → blank c ≡ false
not_blank c low high = grind (arith, nat_tests)

digits_solid : (ds : List ℕ) → AllDigits 10 ds → Alike false ds
digits_solid [] all = All-nil (λ b. blank b ≡ false)
digits_solid (d ∷ ds) all =
    let digit = digit_from_value d all.0 in
    All-cons (λ b. blank b ≡ false) d ds (not_blank d digit.0 digit.1) (digits_solid ds all.1)

pub solid_decimal : (n : ℕ) → Fits n → Alike false (decimal n)
solid_decimal n small = digits_solid (decimal n) (digits_decimal numerals n small)
