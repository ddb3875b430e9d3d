use Rattle.std.proofs.Common.{◌≡◌, Bool, true, false, ◌-◌, refl, ◌∙◌, mod-eq_of_lt, arith, MatchOption}
use Rattle.std.specs.Bool.{then_some}
use Rattle.sorted.proofs.Members.{has_below}
use Rattle.sorted.specs.Lists.{has}
use Rattle.sorted.specs.Sorted.{items_of}
use Rattle.letter.proofs.desks.Desk.member.Goals as goal

if_so : {A : Type 0} (S : A → Type 0) (b : Bool) (x : A) → (b ≡ true → S x) → MatchOption (then_some b x) (b ≡ false) S
if_so S true x here = here refl
if_so S false x here = refl

pub returns : goal.returns
returns g c =
    rw (c.then_some.ensures, c.contains.ensures)
    (if_so _ (has (items_of c.args.self.now.list) c.args.n) c.new.result
    (λ there. (
      there,
      c.new.ensures
          ∙ mod-eq_of_lt (omega (arith, has_below (◌-◌ g.row.P c.args.self.now.nodes.len) c.args.n _ there c.args.self.now.below)),
    )))
