use Rattle.std.proofs.Common.{sym, ◌∙◌, subst}
use Rattle.script.specs.Reads.{Reads}
use Rattle.script.specs.Requests.{InRange, words_of}
use Rattle.script.proofs.Said.{no_word, understood}
use Rattle.script.proofs.parse.Goals as goal

pub returns-in_err-verb : goal.returns-in_err-verb
returns-in_err-verb c =
    understood c.args.line.now c.from_residual.result
    (rw c.from_residual.ensures (λ q small e. no_word q (sym c.in_err-verb.ensures ∙ e)))

pub returns : goal.returns
returns c =
    understood c.args.line.now c.request_of.result
    (subst (λ ws. Reads InRange words_of ws c.request_of.result) (sym c.in_ok-verb.ensures) c.request_of.ensures)
