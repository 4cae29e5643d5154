-- `parity::allocate_covariance` meets its contract. Assumes nothing.
use mathlib.Core.Path.{refl}
use Rattle.parity.proofs.Answers.{same_room, cleared_as, answered_refused, answered_done}
use Rattle.parity.proofs.allocate_covariance.Goals as goal

pub returns-in-Err : goal.returns-in-Err
returns-in-Err c =
    let q = same_room _ _ _ _ _ _ _ _ _ _ _ _ c.work.auto.rows c.work.auto.order c.work.auto.weights c.work.auto.correlations c.work.auto.distances c.work.auto.scratch in
    answered_refused c.args.distance c.args.covariance.now c.args.rows_in c.args.columns _ _ _ _ _ _ _ _ _ refl _ _ _ _ _ _ _ (rw c.in-Err.is at c.work.ensures) refl (cleared_as _ _ _ _ _ _ _ _ q c.clear_with_matrices.ensures)

pub returns : goal.returns
returns c =
    answered_done c.args.distance c.args.covariance.now c.args.rows_in c.args.columns _ _ _ _ _ _ _ _ _ refl (rw c.in_default.is at c.work.ensures) refl
