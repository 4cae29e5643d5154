-- `capi::rovignesc_hcaa` meets its contract. Assumes nothing.
use Rattle.capi.proofs.Calls.{hcaa_refused, hcaa_done}
use Rattle.capi.proofs.rovignesc_hcaa.Goals as goal

pub shape_of-rows-in_default : goal.shape_of-rows-in_default
shape_of-rows-in_default c = c.clear_all.auto.rows

pub shape_of-order-in_default : goal.shape_of-order-in_default
shape_of-order-in_default c = c.clear_all.auto.order

pub shape_of-weights-in_default : goal.shape_of-weights-in_default
shape_of-weights-in_default c = c.clear_all.auto.weights

pub shape_of-scratch-in_default : goal.shape_of-scratch-in_default
shape_of-scratch-in_default c = c.clear_all.auto.scratch

pub shape_of-asked-in_default : goal.shape_of-asked-in_default
shape_of-asked-in_default c = c.tell.auto.asked

pub returns-in_default : goal.returns-in_default
returns-in_default c =
    hcaa_refused _ _ _ _ c.shape_if-prices_shape.ensures _ _ _ c.shape_if-returns_shape.ensures _ _ _ c.shape_if-covariance_shape.ensures _ _ _ _ _ _ _ _ _ _ _ _ c.judge_hcaa-said.ensures _ _ _ _ _ _ _ c.in_default.is c.tell.ensures.value c.tell.ensures.asked_after c.clear_all.ensures

pub shape_of-rows : goal.shape_of-rows
shape_of-rows c = c.allocate-answer.auto.rows

pub shape_of-order : goal.shape_of-order
shape_of-order c = c.allocate-answer.auto.order

pub shape_of-weights : goal.shape_of-weights
shape_of-weights c = c.allocate-answer.auto.weights

pub shape_of-scratch : goal.shape_of-scratch
shape_of-scratch c = c.allocate-answer.auto.scratch

pub shape_of-asked : goal.shape_of-asked
shape_of-asked c = c.tell-2.auto.asked

pub returns : goal.returns
returns c =
    hcaa_done _ _ _ _ c.shape_if-prices_shape.ensures _ _ _ c.shape_if-returns_shape.ensures _ _ _ c.shape_if-covariance_shape.ensures _ _ _ _ _ _ _ _ _ _ _ _ c.judge_hcaa-said.ensures _ _ _ _ _ _ c.in-Ok.is _ c.clusters_in.ensures _ c.distance_in.ensures _ c.linkage_in.ensures _ c.tell-2.ensures.value c.tell-2.ensures.asked_after c.allocate-answer.ensures
