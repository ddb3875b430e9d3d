use Rattle.std.proofs.Common.{◌≡◌, ◌+◌, ◌/◌, ◌%◌, ◌∷◌, length, vec_items}
use Rattle.read_cli.specs.Cards.{cards}
use Rattle.read_cli.proofs.request.list_of.Given as goal

abbrev pub invariant-loop-card : goal.invariant-loop-card
invariant-loop-card l =
    vec_items l.list ≡ (length l.cards / 2 + length l.cards % 2) ∷ cards l.card-index l.cards
