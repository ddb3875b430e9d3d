use Rattle.std.proofs.Common.{rules}
use Rattle.explain.proofs.Reading.{brought_together, brought_together_parity}
use Rattle.explain.proofs.Uniqueness.{brought_together_at}
use Rattle.explain.proofs.Sharp.{letters_amiss}
use Rattle.explain.proofs.told_up_to.Goals as goal

pub returns-then-d-m : goal.returns-then-d-m
returns-then-d-m c =
    record {
      exact = search rules;
      plain = brought_together;
      parity = brought_together_parity;
      any_points = brought_together_at;
      examples = letters_amiss;
    }

pub returns : goal.returns
returns c =
    record {
      exact = search rules;
      plain = brought_together;
      parity = brought_together_parity;
      any_points = brought_together_at;
      examples = letters_amiss;
    }
