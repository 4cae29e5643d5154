-- `capi::rovignesc_hrp` meets its contract. Assumes nothing.
use Rattle.capi.proofs.Calls.{hrp_refused, hrp_done}
use Rattle.capi.proofs.rovignesc_hrp.Goals as goal

pub shape_of-rows-in_default : goal.shape_of-rows-in_default
shape_of-rows-in_default c = c.clear_with_matrices.auto.rows

pub shape_of-order-in_default : goal.shape_of-order-in_default
shape_of-order-in_default c = c.clear_with_matrices.auto.order

pub shape_of-weights-in_default : goal.shape_of-weights-in_default
shape_of-weights-in_default c = c.clear_with_matrices.auto.weights

pub shape_of-seriated_correlations-in_default : goal.shape_of-seriated_correlations-in_default
shape_of-seriated_correlations-in_default c = c.clear_with_matrices.auto.correlations

pub shape_of-seriated_distances-in_default : goal.shape_of-seriated_distances-in_default
shape_of-seriated_distances-in_default c = c.clear_with_matrices.auto.distances

pub shape_of-scratch-in_default : goal.shape_of-scratch-in_default
shape_of-scratch-in_default c = c.clear_with_matrices.auto.scratch

pub returns-in_default : goal.returns-in_default
returns-in_default c =
    hrp_refused _ _ _ _ c.shape_if-prices_shape.ensures _ _ _ c.shape_if-returns_shape.ensures _ _ _ c.shape_if-covariance_shape.ensures _ _ _ _ _ c.judge_hrp-said.ensures _ _ _ _ _ _ _ _ c.in_default.is c.number.ensures c.clear_with_matrices.ensures

pub shape_of-rows : goal.shape_of-rows
shape_of-rows c = c.allocate.auto.rows

pub shape_of-order : goal.shape_of-order
shape_of-order c = c.allocate.auto.order

pub shape_of-weights : goal.shape_of-weights
shape_of-weights c = c.allocate.auto.weights

pub shape_of-seriated_correlations : goal.shape_of-seriated_correlations
shape_of-seriated_correlations c = c.allocate.auto.seriated_correlations

pub shape_of-seriated_distances : goal.shape_of-seriated_distances
shape_of-seriated_distances c = c.allocate.auto.seriated_distances

pub shape_of-scratch : goal.shape_of-scratch
shape_of-scratch c = c.allocate.auto.scratch

pub returns : goal.returns
returns c =
    hrp_done _ _ _ _ c.shape_if-prices_shape.ensures _ _ _ c.shape_if-returns_shape.ensures _ _ _ c.shape_if-covariance_shape.ensures _ _ _ _ _ c.judge_hrp-said.ensures _ _ _ _ _ _ _ c.in-Ok.is _ c.number-2.ensures (rw c.distance_in.ensures at c.allocate.ensures)
