use Rattle.letter.specs.Desks.{desk_size}
use Rattle.sites.proofs.Deeds.{done_here}
use Rattle.sites.proofs.site.Site.does.Goals as goal

pub returns : goal.returns
returns g c =
    done_here g.row.P (desk_size c.args.self.now.desk) c.args.deed _ _ _ _ c.does.result c.args.self.now.size c.does.ensures.done
