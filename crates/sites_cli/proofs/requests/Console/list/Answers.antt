use Rattle.std.proofs.Common.{ap, ◌∙◌, inl, inr}
use Rattle.std.proofs.lemmas.Result.{IfOk-weaker}
use Rattle.lines.specs.Text.{list_text}
use Rattle.sites_cli.specs.Told.{ListTold, lists_in}
use Rattle.sites_cli.proofs.Lines.{none_absent}
use Rattle.sites_cli.proofs.requests.Console.list.Goals as goal

pub returns-in_default : goal.returns-in_default
unfolding ListTold
returns-in_default c =
    IfOk-weaker c.refusal_line.result _ _ (λ s e. inr (_, (e, none_absent c.args.self.now.sites c.args.i c.in_default.is))) c.refusal_line.ensures

pub returns-in-Ok : goal.returns-in-Ok
unfolding ListTold lists_in
returns-in-Ok c =
    rw c.in-Some.is
    (IfOk-weaker c.list_line.result _ _ (λ s e. inl (e ∙ ap list_text c.in-Ok.ensures.1, c.in-Ok.ensures.0)) c.list_line.ensures)

pub returns-in-Err : goal.returns-in-Err
unfolding ListTold lists_in
returns-in-Err c =
    rw c.in-Some.is (IfOk-weaker c.refusal_line-in-Err.result _ _ (λ s e. inr (_, (e, c.in-Err.ensures))) c.refusal_line-in-Err.ensures)
