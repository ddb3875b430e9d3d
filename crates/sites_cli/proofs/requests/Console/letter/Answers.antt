use Rattle.std.proofs.Common.{ap, ◌∙◌, inl, inr}
use Rattle.std.proofs.lemmas.Result.{IfOk-weaker}
use Rattle.letter.specs.Letter.{Letter}
use Rattle.lines.specs.Text.{letter_text}
use Rattle.sites_cli.specs.Told.{LetterTold, lists_in}
use Rattle.sites_cli.proofs.Lines.{none_absent}
use Rattle.sites_cli.proofs.requests.Console.letter.Goals as goal

pub returns-in_default : goal.returns-in_default
unfolding LetterTold
returns-in_default c =
    IfOk-weaker c.refusal_line.result _ _ (λ s e. inr (_, (e, inl (none_absent c.args.self.now.sites c.args.i c.in_default.is))))
    c.refusal_line.ensures

pub returns-in-Ok : goal.returns-in-Ok
unfolding LetterTold lists_in
returns-in-Ok c =
    let sent = c.in-Ok.ensures in
    rw c.in-Some.is
    (IfOk-weaker c.sent_line.result _ _ (λ s e. inl (e ∙ ap (λ (l : Letter). letter_text l.many l.at) sent.2, (sent.0, sent.1)))
    c.sent_line.ensures)

pub returns-in-Err : goal.returns-in-Err
unfolding LetterTold lists_in
returns-in-Err c =
    rw c.in-Some.is (IfOk-weaker c.refusal_line-in-Err.result _ _ (λ s e. inr (_, (e, c.in-Err.ensures))) c.refusal_line-in-Err.ensures)
