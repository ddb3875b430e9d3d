-- The statements of `specs/Theorems.antt`, from the lemmas.
use Rattle.std.proofs.Common.{◌∙◌}
use Rattle.sorted.specs.Theorems.{DifferencesDo, Triangle, SameMembers, Insertion, Removal, Undoing, Difference, Union, Distance, Laws}
use Rattle.sorted.proofs.Members.{equal_by_members}
use Rattle.sorted.proofs.Insertion as insertion
use Rattle.sorted.proofs.Difference as difference
use Rattle.sorted.proofs.Union as union
use Rattle.sorted.proofs.Distance as distance

pub differences_do : DifferencesDo
differences_do = distance.differences_do

pub triangle : Triangle
triangle = distance.triangle

pub same_members : SameMembers
same_members = equal_by_members

pub insertion_laws : Insertion
insertion_laws = record {
  members = insertion.put_has;
  rises = insertion.put_rising;
  below = insertion.put_below;
  size = insertion.put_length;
  there = insertion.put_there;
  order = insertion.put_put;
}

pub removal_laws : Removal
removal_laws = record {
  members = insertion.without_has;
  rises = insertion.without_rising;
  below = insertion.without_below;
  size = insertion.without_length;
  absent = insertion.without_absent;
  order = insertion.without_without;
}

pub undoing_laws : Undoing
undoing_laws = record {
  out_after_in = insertion.without_put;
  in_after_out = insertion.put_without;
  out_again = λ n xs r h. insertion.without_put n xs r ∙ insertion.without_absent n xs h;
  in_again = λ n xs r h. insertion.put_without n xs r ∙ insertion.put_there n xs r h;
}

pub difference_laws : Difference
difference_laws = record
    { members = difference.only_has; rises = difference.only_rising; below = difference.only_below; removal = distance.without_all_only }

pub union_laws : Union
union_laws = record {
  members = union.put_all_has;
  rises = union.put_all_rising;
  below = union.put_all_below;
  commutative = union.union_comm;
  associative = union.union_assoc;
  idempotent = union.union_idem;
  size = distance.union_length;
}

pub distance_laws : Distance
distance_laws = record
    { symmetric = distance.differ_sym; zero_apart = distance.differ_zero; zero_to_itself = distance.differ_itself; triangle = distance.triangle }

pub laws : Laws
laws = record {
  insertion = insertion_laws;
  removal = removal_laws;
  undoing = undoing_laws;
  difference = difference_laws;
  union = union_laws;
  distance = distance_laws;
}
