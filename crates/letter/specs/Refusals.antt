-- The number and the place by which each refusal is told, and its text, as bytes. Assumes nothing: these are definitions.
--
--   refused_text k i     a refusal's number and its place: "refused 5 at 9"
--   refusal_text e       the same of a refusal, or "out of memory"
use Rattle.std.specs.Prelude.{ℕ, cond, List, ◌++◌, codes, decimal, ◌==◌}
use Rattle.letter.specs.declared.refusals.Refusal.{Refusal}
use Rattle.letter.specs.declared.refusals.Refusal.TheVariants.{Letter, Allowance, Short, Comes, Goes, Full, Site, Memory}

-- the most numbers that a list at a desk has
abbrev pub capacity : ℕ
capacity = 60000

-- want of memory is told by a word of its own, and has no number but 0
abbrev pub number : Refusal → ℕ
number (Letter i) = 1
number (Refusal.List i) = 2
number (Allowance d) = 3
number (Short n) = 4
number (Comes n) = 5
number (Goes n) = 6
number Full = 7
number (Site i) = 8
number Memory = 0

abbrev pub place : Refusal → ℕ
place (Letter i) = i
place (Refusal.List i) = i
place (Allowance d) = d
place (Short n) = n
place (Comes n) = n
place (Goes n) = n
place Full = capacity
place (Site i) = i
place Memory = 0

unfoldable pub refused_text : ℕ → ℕ → List ℕ
refused_text k i = codes "refused " ++ (decimal k ++ (codes " at " ++ decimal i))

unfoldable pub refusal_text : Refusal → List ℕ
refusal_text e = cond (number e == 0) (codes "out of memory") (refused_text (number e) (place e))
