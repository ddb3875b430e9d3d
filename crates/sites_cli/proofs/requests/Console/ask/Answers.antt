use Rattle.std.proofs.lemmas.Result.{IfOk-weaker}
use Rattle.sites_cli.specs.Told.{lists_in}
use Rattle.sites_cli.proofs.Lines.{none_asked, none_truly}
use Rattle.sites_cli.proofs.requests.Console.ask.Goals as goal

pub returns-in_default : goal.returns-in_default
returns-in_default c =
    IfOk-weaker c.answer_line.result _ _
    (λ s e.
    record {
      answer = _;
      printed = e;
      says = none_asked c.args.self.now.sites c.args.i c.args.j c.args.way c.in_default.is;
      truly = none_truly c.args.self.now.sites c.args.i c.args.j c.args.way c.in_default.is;
    })
    c.answer_line.ensures

pub returns : goal.returns
unfolding lists_in
returns c =
    rw c.in-Some.is
    (IfOk-weaker c.answer_line-2.result _ _
    (λ s e.
    record {
      answer = c.ask-answer.result;
      printed = e;
      says = c.ask-answer.ensures.says;
      truly = c.ask-answer.ensures.truly;
    })
    c.answer_line-2.ensures)
