use Rattle.std.proofs.Common.{◌-◌, get_or, None, Some, refl, arith}
use Rattle.letter.specs.Desks.{desk_size}
use Rattle.sites.specs.Ladder.{rungs, SaysMore}
use Rattle.sites.specs.Site.{site_list}
use Rattle.sites.proofs.Bringing.{letter_size, read_there}
use Rattle.sites.proofs.Climbing.{always_read, rung_small, climbing_more, climbing_read, climbing_end}
use Rattle.sites.proofs.site.Site.climb.Goals as goal

pub unwrap-found-requires : goal.unwrap-found-requires
unwrap-found-requires g c =
    let m = get_or rungs c.loop-m.m-index 0 in
    let sent = rw c.unwrap-letter.ensures at c.letter.ensures in
    always_read _ m c.unwrap-letter.result.values.len (desk_size c.args.self.now.desk) _ c.difference_beside.result
    (rung_small c.loop-m.m-index (omega arith)).1 (omega arith) (letter_size m c.unwrap-letter.result (site_list c.args.there.now) sent.1)
    c.args.self.now.size c.difference_beside.ensures

pub returns-in-Some : goal.returns-in-Some
returns-in-Some g c =
    let p = g.row.P in
    let m = get_or rungs c.loop-m.m-index 0 in
    let there = site_list c.args.there.now in
    let here = site_list c.args.self.now in
    let read =
    read_there m (m - 1) c.unwrap-letter.result there here (desk_size c.args.there.now.desk) (desk_size c.args.self.now.desk) _ (Some _) c.in-Some.is
    (rw c.unwrap-letter.ensures at c.letter.ensures) (rw c.unwrap-found.ensures at c.difference_beside.ensures) in
    climbing_read p there here c.loop-m.m-index c.loop-m.sent _ c.loop-m.invariant (omega arith)
    (record {
      values_is = refl;
      sent_is = refl;
      told = read.1;
    })

pub loop-m-preserved : goal.loop-m-preserved
unfolding SaysMore
loop-m-preserved g c =
    let p = g.row.P in
    let m = get_or rungs c.loop-m.m-index 0 in
    let there = site_list c.args.there.now in
    let here = site_list c.args.self.now in
    let read =
    read_there m (m - 1) c.unwrap-letter.result there here (desk_size c.args.there.now.desk) (desk_size c.args.self.now.desk) _ None c.in_default.is
    (rw c.unwrap-letter.ensures at c.letter.ensures) (rw c.unwrap-found.ensures at c.difference_beside.ensures) in
    climbing_more p there here c.loop-m.m-index c.loop-m.sent c.loop-m.invariant (omega arith) read.1

pub returns : goal.returns
returns g c =
    climbing_end g.row.P (site_list c.args.there.now) (site_list c.args.self.now) c.loop-m.m-index c.loop-m.sent c.loop-m.invariant (omega arith)
