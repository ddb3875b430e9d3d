-- What the binary search says of any numbers.
use Rattle.sorted.proofs.Places.{searched_any}
use Rattle.sorted.proofs.slices.search.Goals as goal

pub returns : goal.returns
returns c =
    let found = c.binary_search.ensures in
    searched_any c.args.n c.args.list.now _ found.bound found.ok found.position
