-- `job::text_to_listing` meets its contract. Assumes nothing.
use Rattle.job.proofs.Promises.{promised}
use Rattle.job.proofs.text_to_listing.Goals as goal

pub shape_of-out : goal.shape_of-out
shape_of-out c = c.text_to.auto.out

pub returns : goal.returns
returns c = promised _ _ _ _ c.text_to.ensures
