use Rattle.std.proofs.Common.{refl, inl, inr}
use Rattle.std.proofs.lemmas.Result.{IfOk-weaker}
use Rattle.sites_cli.specs.Told.{OpenTold, lists_in}
use Rattle.sites_cli.proofs.requests.Console.open.Goals as goal

pub returns-in-Ok : goal.returns-in-Ok
unfolding OpenTold lists_in
returns-in-Ok c =
    let opened = c.in-Ok.ensures in
    IfOk-weaker c.opened_line.result _ _ (λ s e. inl (e, (opened.several, opened.few, opened.empty))) c.opened_line.ensures

pub returns-in-Err : goal.returns-in-Err
unfolding OpenTold
returns-in-Err c =
    IfOk-weaker c.refusal_line.result _ _ (λ s e. inr (c.in-Err.refusal, (e, (refl, c.in-Err.ensures)))) c.refusal_line.ensures
