-- `job::by_hrp` meets its contract. Assumes nothing.
use Rattle.job.proofs.Jobs.{hrp_allotted}
use Rattle.job.proofs.by_hrp.Goals as goal

pub returns : goal.returns
returns c = hrp_allotted _ _ _ _ c.requires _ _ _ _ c.cells_if.ensures c.shape_if.ensures c.cells_if-2.ensures c.shape_if-2.ensures _ _ _ _ c.allocate-said.ensures
