use Rattle.std.proofs.Common.{rules, arith}
use Rattle.std.proofs.lemmas.Grind.{common_steps}
use Rattle.script.proofs.Decimal.{no_zero_first, not_empty, reads}
use Rattle.script.proofs.numbers.number.Goals as goal
use borrow.Author.Tests.{tests}

pub returns-in_err-first : goal.returns-in_err-first
returns-in_err-first c = rw c.from_residual.ensures (λ n small e. not_empty c.args.word.now n small e (grind (arith, common_steps)))

pub returns-then-word-gt1 : goal.returns-then-word-gt1
returns-then-word-gt1 c = λ n small e. no_zero_first c.args.word.now n small e (omega arith) (grind (arith, common_steps))

pub returns : goal.returns
returns c =
    reads _ _ _ (λ n x v q k. search (rules, tests)) c.args.word.now c.iter.result _ c.try_fold.result c.iter.ensures.rest
    (grind (arith, common_steps)) (λ zero. grind (arith, common_steps)) c.try_fold.ensures.ran
