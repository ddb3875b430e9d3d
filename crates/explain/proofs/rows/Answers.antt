-- A power that fits is told, and one that does not fit is past the limit.
use Rattle.std.proofs.Common.{◌≡◌, ℕ, ◌<◌, ◌≤◌, None, Some, Option, MatchOption, ◌∙◌, arith}
use Rattle.std.specs.Option.{SomeIff}
use Rattle.explain.proofs.Counting.{powers_are, some_letters_alike}
use Rattle.explain.proofs.rows.Goals as goal

told : (r : Option ℕ) (power rows limit : ℕ) → power ≡ rows → SomeIff r (power < limit) power → MatchOption r (limit ≤ rows) (λ n. n ≡ rows)
told None power rows limit e far = omega (arith, far)
told (Some n) power rows limit e near = near.1 ∙ e

pub returns : goal.returns
returns c =
    record {
      exact = told c.checked_pow.result _ _ 18446744073709551616 (powers_are c.args.p c.args.m) c.checked_pow.ensures;
      alike = some_letters_alike;
    }
