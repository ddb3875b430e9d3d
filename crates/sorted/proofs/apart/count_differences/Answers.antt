-- Each turn moves past the smaller first number, which differs unless both have it.
use Rattle.std.proofs.lemmas.Cmp.{ranked}
use Rattle.std.proofs.Common.{Less, Equal, Greater, ◌≡◌, ◌+◌, ◌-◌, length, drop, arith}
use Rattle.sorted.specs.Lists.{differ}
use Rattle.sorted.proofs.Turns.{differ_at_less, differ_at_equal, differ_at_greater, differ_at_left_end, differ_at_right_end}
use Rattle.sorted.proofs.apart.count_differences.Goals as goal
use Rattle.sorted.proofs.apart.count_differences.Goals.{then-loop-i-test+else-j-b, else-loop-i-test}

pub loop-i-preserved-in-Less : goal.loop-i-preserved-in-Less
loop-i-preserved-in-Less c =
    let e = differ_at_less c.args.a.now c.args.b.now c.requires.left c.requires.right c.loop-i.i c.loop-i.j c.loop-i-test.true c.if-j-b.true (ranked _ _ Less c.in-Less.ensures) in
    omega arith

pub loop-i-preserved-in-Equal : goal.loop-i-preserved-in-Equal
loop-i-preserved-in-Equal c =
    let e = differ_at_equal c.args.a.now c.args.b.now c.requires.left c.requires.right c.loop-i.i c.loop-i.j c.loop-i-test.true c.if-j-b.true (ranked _ _ Equal c.in-Equal.ensures) in
    omega arith

pub loop-i-preserved : goal.loop-i-preserved
loop-i-preserved c =
    let e = differ_at_greater c.args.a.now c.args.b.now c.requires.left c.requires.right c.loop-i.i c.loop-i.j c.loop-i-test.true c.if-j-b.true (ranked _ _ Greater c.in-Greater.ensures) in
    omega arith

pub returns : goal.returns
returns c = let e = rest in omega arith
  where
    rest :
        differ (drop c.loop-i.i c.args.a.now) (drop c.loop-i.j c.args.b.now)
        ≡ (length c.args.a.now - c.loop-i.i) + (length c.args.b.now - c.loop-i.j)
    rest =
        elim c.loop-i-test.branch [
          | then-loop-i-test+else-j-b w ↦ differ_at_right_end _ _ _ _ w.if-j-b.false
          | else-loop-i-test w ↦ differ_at_left_end _ _ _ _ w.loop-i-test.false
        ]
