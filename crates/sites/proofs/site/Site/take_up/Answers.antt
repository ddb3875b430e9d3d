use Rattle.std.proofs.Common.{◌≡◌, sym, ap, ◌∙◌}
use Rattle.letter.specs.Desks.{desk_of, desk_size}
use Rattle.decode.specs.Numbers.{listed}
use Rattle.sites.specs.Taking.{going}
use Rattle.sites.proofs.Taking.{taken}
use Rattle.sites.proofs.site.Site.take_up.Goals as goal
use Rattle.sites.proofs.site.Site.take_up.Goals.{in-Take, in-Join}

pub returns : goal.returns
returns g c =
    let told = listed c.args.difference.gone in
    let gone : c.match-way.gone.now ≡ going c.args.way told =
    elim c.match-way.branch [
      | in-Take w ↦ ap (λ t. t.now) w.gone-is ∙ w.gone-gone.ensures ∙ sym (ap (λ t. going t told) w.in-Take.is)
      | in-Join w ↦ ap (λ t. t.now) w.gone-is ∙ sym (ap (λ t. going t told) w.in-Join.is)
    ] in
    taken g.row.P (desk_size c.args.self.now.desk) c.args.way (desk_of c.args.self.now.desk) (desk_of c.exchange.new.self) told
    (listed c.args.difference.come) _ _ _ _ c.exchange.result c.args.self.now.size gone c.come.ensures c.exchange.ensures.done
