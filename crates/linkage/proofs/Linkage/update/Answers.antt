-- `linkage::Linkage::update` meets its contract. Assumes nothing.
use Rattle.linkage.specs.Merge.{update_f}
use Rattle.linkage.proofs.Linkage.update.Goals as goal

pub returns-in-Single : goal.returns-in-Single
unfolding update_f
returns-in-Single c = rw c.in-Single.is c.min.ensures

pub returns-in-Complete : goal.returns-in-Complete
unfolding update_f
returns-in-Complete c = rw c.in-Complete.is c.max.ensures

pub returns-in-Average : goal.returns-in-Average
unfolding update_f
returns-in-Average c = rw c.in-Average.is c.settled.ensures

pub returns-in-Ward : goal.returns-in-Ward
unfolding update_f
returns-in-Ward c = rw c.in-Ward.is c.ward.ensures
