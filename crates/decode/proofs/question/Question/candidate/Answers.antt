use Rattle.std.proofs.Common.{◌≡◌, ℕ, ◌+◌, List, [], ◌++◌, length, take, drop, ap, ◌∙◌, subst, arith}
use Rattle.std.proofs.lemmas.List.{length-take-le, length-drop}
use Rattle.field.specs.Plain.{plain}
use Rattle.letter.specs.Letters.{letter_of}
use Rattle.letter.specs.Rows.{numbers}
use Rattle.letter.proofs.Filled.{plain_length}
use Rattle.field.specs.Prime.{Prime}
use Rattle.decode.specs.Numbers.{listed}
use Rattle.decode.specs.Polynomials.{coefficients}
use Rattle.decode.specs.Steps.{Passed}
use Rattle.decode.specs.Trial.{Trying}
use Rattle.decode.proofs.Whole.{none_by_unsolvable, reads_from_solution, only_candidate, plain_parts, solution_size}
use Rattle.decode.proofs.question.Question.candidate.Goals as goal

pub returns-in_err-solution : goal.returns-in_err-solution
unfolding letter_of
returns-in_err-solution g c =
    let q = c.args.self.now in
    rw c.from_residual.ensures
    (none_by_unsolvable g.row.P q.nodes.len q.d q.letter.count q.here.now (numbers q.letter.values)
    c.args.sizes.gone c.args.sizes.come _ _ _ _ q.modulus.prime q.below q.spots q.right
    c.requires.gone c.requires.come c.equations.ensures.unknowns c.equations.ensures.equations c.in_err-solution.ensures)

pub split_at-requires : goal.split_at-requires
split_at-requires g c =
    let size =
    solution_size c.values.result.now _ c.equations.result.unknowns c.values.ensures c.in_ok-solution.ensures.many in
    omega (arith, size, c.equations.ensures.unknowns)

pub from_coefficients-come-requires : goal.from_coefficients-come-requires
from_coefficients-come-requires g c =
    let size =
    solution_size c.values.result.now _ c.equations.result.unknowns c.values.ensures c.in_ok-solution.ensures.many in
    omega (arith, size, c.split_at.ensures.back_len, c.equations.result.narrow)

pub returns : goal.returns
unfolding letter_of
returns g c =
    let q = c.args.self.now in
    let p : ℕ = g.row.P in
    let m : ℕ = q.nodes.len in
    let a : ℕ = c.args.sizes.gone in
    let xs = c.values.result.now in
    let cs = coefficients c.from_coefficients-gone.result in
    let ds = coefficients c.from_coefficients-come.result in
    let size : length xs ≡ a + c.args.sizes.come =
    solution_size xs _ c.equations.result.unknowns c.values.ensures c.in_ok-solution.ensures.many ∙ c.equations.ensures.unknowns in
    let cs-is : cs ≡ plain (take a xs) = c.from_coefficients-gone.ensures.coefficients ∙ ap plain c.split_at.ensures.front in
    let ds-is : ds ≡ plain (drop a xs) = c.from_coefficients-come.ensures.coefficients ∙ ap plain c.split_at.ensures.back in
    let cs-size : length cs ≡ a = ap length cs-is ∙ plain_length (take a xs) ∙ length-take-le a xs (omega arith) in
    let ds-size : length ds ≡ c.args.sizes.come =
    ap length ds-is ∙ plain_length (drop a xs) ∙ length-drop a xs ∙ omega arith in
    let whole = ap (λ t. t ++ ds) cs-is ∙ ap (λ t. plain (take a xs) ++ t) ds-is ∙ plain_parts xs a ∙ c.values.ensures in
    record {
      only =
          only_candidate p m q.d q.letter.count q.here.now (numbers q.letter.values) cs ds _ _ q.modulus.prime
          (λ (pr : Prime p).
          reads_from_solution p m q.d q.letter.count q.here.now (numbers q.letter.values) a c.args.sizes.come _ _ cs ds _ _ pr
          q.room q.allowed q.below q.spots q.right c.requires.gone c.requires.come cs-size ds-size whole
          c.equations.ensures.equations c.in_ok-solution.ensures.solves)
          (subst
          (λ (b : ℕ).
          (x y : List ℕ)
          → Trying p b 0 cs ds [] [] x y
          → (x ≡ listed c.find_roots.result.gone) × (y ≡ listed c.find_roots.result.come))
          c.bound.ensures c.find_roots.ensures.only);
      gone_passed = subst (λ (b : ℕ). Passed b (listed c.find_roots.result.gone)) c.bound.ensures c.find_roots.ensures.gone;
      come_passed = subst (λ (b : ℕ). Passed b (listed c.find_roots.result.come)) c.bound.ensures c.find_roots.ensures.come;
    }
