use Rattle.std.proofs.Common.{ℕ, ◌<◌, length, subst}
use Rattle.letter.specs.Letters.{letter_of}
use Rattle.decode.specs.Sizes.{far}
use Rattle.decode.proofs.Decide.{decided}
use Rattle.decode.proofs.Start.{far_too_many}
use Rattle.decode.proofs.question.Question.difference.Goals as goal

pub returns-in_err-sizes : goal.returns-in_err-sizes
unfolding letter_of
returns-in_err-sizes g c =
    let q = c.args.self.now in
    rw c.from_residual.ensures
    (far_too_many g.row.P q.nodes.len q.d (letter_of q.letter) q.here.now
    (subst (λ (k : ℕ). q.d < far k (length q.here.now)) c.count.ensures c.in_err-sizes.ensures))

pub returns : goal.returns
returns g c =
    let q = c.args.self.now in
    decided g.row.P q.nodes.len q.d (letter_of q.letter) q.here.now _ _ _ c.in_ok-found.ensures c.is_found.ensures c.then_some.ensures
