use Rattle.std.proofs.Common.{Err}
use Rattle.std.proofs.lemmas.Result.{IfOk-weaker}
use Rattle.letter.specs.declared.refusals.Refusal.TheVariants.{Site}
use Rattle.letter.specs.Desks.{deed_of}
use Rattle.sites_cli.specs.Told.{lists_in}
use Rattle.sites_cli.proofs.Lines.{none_passed}
use Rattle.sites_cli.proofs.requests.Console.does.Goals as goal

pub returns-in_default : goal.returns-in_default
returns-in_default c =
    IfOk-weaker c.deed_line.result _ _
    (λ s e.
    record {
      start = 0;
      finish = 0;
      result = Err (Site c.args.i);
      printed = e;
      says = none_passed c.args.self.now.sites c.args.i (deed_of c.args.deed) c.in_default.is;
    })
    c.deed_line.ensures

pub returns : goal.returns
unfolding lists_in
returns c =
    rw c.in-Some.is
    (IfOk-weaker c.deed_line-2.result _ _
    (λ s e.
    record {
      start = c.new-tally.result.products;
      finish = c.does-done.new.tally.products;
      result = c.does-done.result;
      printed = e;
      says = c.does-done.ensures.done;
    })
    c.deed_line-2.ensures)
