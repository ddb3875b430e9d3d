-- A row of numbers: its length, none, and one more at the end.
use Rattle.std.proofs.Common.{◌≡◌, ℕ, ◌+◌, true, List, [], ◌∷◌, ◌++◌, length, sym, refl, ap, ◌∙◌, arith}
use Rattle.std.proofs.lemmas.List.{length-take-le}
use Rattle.std.proofs.lemmas.Bool.Decides.{nat_tests}
use Rattle.std.proofs.lemmas.Bool.{lt-ltb}
use Rattle.sorted.specs.Lists.{rising, all_below}
use Rattle.decode.specs.declared.numbers.Numbers.{Numbers}
use Rattle.decode.specs.Numbers.{listed}

pub length_listed : (ns : Numbers) → length (listed ns) ≡ ns.len
unfolding listed
length_listed ns = length-take-le ns.len ns.at (omega (arith, ns.sized, ns.few))

pub length_none : (ns : Numbers) → listed ns ≡ [] → ns.len ≡ 0
length_none ns none = sym (length_listed ns) ∙ ap length none

pub below_push : (x : ℕ) (ns : List ℕ) → all_below x ns ≡ true → all_below (x + 1) (ns ++ x ∷ []) ≡ true
unfolding all_below
below_push x [] low = let l = lt-ltb x (x + 1) (omega arith) in grind (arith, nat_tests)
below_push x (n ∷ ns) low = let h = below_push x ns in grind (arith, nat_tests)

pub rising_push : (x : ℕ) (ns : List ℕ) → all_below x ns ≡ true → rising ns ≡ true → rising (ns ++ x ∷ []) ≡ true
unfolding all_below rising
rising_push x [] low up = refl
rising_push x (n ∷ []) low up = grind (arith, nat_tests)
rising_push x (n ∷ m ∷ ns) low up = let h = rising_push x (m ∷ ns) in grind (arith, nat_tests)
