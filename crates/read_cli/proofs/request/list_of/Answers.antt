use Rattle.std.proofs.Common.{◌/◌, ◌∙◌, length, arith}
use Rattle.std.proofs.lemmas.Grind.{common_steps}
use Rattle.read_cli.specs.Cards.{cards}
use Rattle.read_cli.proofs.Cards.{card_of, one_more}
use Rattle.read_cli.proofs.request.list_of.Goals as goal

pub loop-card-init : goal.loop-card-init
unfolding cards
loop-card-init c = grind (arith, common_steps)

pub loop-card-preserved : goal.loop-card-preserved
loop-card-preserved c =
    one_more _ _ _ _ c.loop-card.card-index c.from-n.result c.loop-card.invariant
    (c.from-n.ensures
    ∙ card_of c.args.cards.now _ c.as_chunks.result.0.now (length c.args.cards.now / 2) c.loop-card.card-index c.from_le_bytes.result
    c.as_chunks.ensures.front c.loop-card-test.true c.as_chunks.ensures.front_len c.from_le_bytes.ensures)
    c.in_ok-push-2.ensures.items
