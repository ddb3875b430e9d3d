-- The count, seen from the other side and by way of a third list.
use Rattle.std.proofs.Common.{◌≡◌, ◌∙◌, ap₂, arith}
use Rattle.sorted.specs.Lists.{differ}
use Rattle.sorted.specs.Sorted.{items_of}
use Rattle.sorted.proofs.Distance.{differ_sym, triangle}
use Rattle.sorted.proofs.SortedList.differ.Goals as goal

pub returns : goal.returns
returns c =
    let xs = items_of c.args.self.now in
    let ys = items_of c.args.other.now in
    let e : c.count_differences.result ≡ differ xs ys =
    c.count_differences.ensures ∙ ap₂ differ c.as_slice.ensures.value c.as_slice-2.ensures.value in
    record {
      count = e;
      symmetric = e ∙ differ_sym xs ys;
      triangle = λ zs r. omega (arith, e, triangle xs ys zs c.args.self.now.sorted c.args.other.now.sorted r);
    }
