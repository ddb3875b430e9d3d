use Rattle.field.proofs.Euclid as euclid
use Rattle.field.proofs.Fermat as fermat
use Rattle.field.proofs.theorems.products_can_be_undone.Goals as goal

pub returns : goal.returns
returns c = record { euclid = euclid.euclid; fermat = fermat.fermat; undoing = fermat.undo_inverse }
