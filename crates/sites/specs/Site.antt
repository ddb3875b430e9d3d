-- What a site holds.
--
--   site_list s    the list of its desk
use Rattle.std.specs.Prelude.{ℕ, List}
use Rattle.letter.specs.Desks.{desk_of}
use Rattle.sites.specs.declared.site.Site.{Site}

abbrev pub site_list : {p : ℕ} → Site p → List ℕ
site_list s = (desk_of s.desk).list
