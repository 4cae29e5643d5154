-- `resample::keeps_all` meets its contract. Assumes nothing.
use Rattle.resample.proofs.Laws.{all_few, all_short}
use Rattle.resample.proofs.keeps_all.Goals as goal

pub returns-then-step-le1 : goal.returns-then-step-le1
returns-then-step-le1 c = all_few _ _ c.if-step-le1.true

pub returns-else-step-le1 : goal.returns-else-step-le1
returns-else-step-le1 c = all_short _ _ c.if-step-le1.false
