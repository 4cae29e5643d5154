-- `hcaa::allocate` meets its contract. Assumes nothing.
use mathlib.Core.Path.{refl, sym}
use lib.Seq.{length-take-le}
use Rattle.hcaa.proofs.Judged.{sources, ready, cells_in, area_in, hopeful, hopes_in, part_in, part_word, ended_refused, ended_done}
use Rattle.hcaa.proofs.allocate.Goals as goal

pub gather_returns-got-requires : goal.gather_returns-got-requires
gather_returns-got-requires c = record {
  out_len = refl;
  sources = sources _ _ _ _ _ _ _ _ _ _ c.judge-said.ensures;
}

pub shape_of-rows-in_default : goal.shape_of-rows-in_default
shape_of-rows-in_default c = c.clear_all.auto.rows

pub shape_of-order-in_default : goal.shape_of-order-in_default
shape_of-order-in_default c = c.clear_all.auto.order

pub shape_of-weights-in_default : goal.shape_of-weights-in_default
shape_of-weights-in_default c = c.clear_all.auto.weights

pub shape_of-scratch-in_default : goal.shape_of-scratch-in_default
shape_of-scratch-in_default c = c.clear_all.auto.scratch

pub returns-in_default : goal.returns-in_default
returns-in_default c = ended_refused _ _ _ _ _ _ _ _ _ _ _ _ _ _ _ _ _ _ _ _ _ _ _ _ _ c.metric_named-read.ensures c.metric_of-used.ensures c.wanted_by-wanted.ensures c.freq_step-step.ensures c.judge-said.ensures c.gather_returns-got.ensures c.judge_gathered-said.ensures _ _ _ _ _ c.in_default.is c.clear_all.ensures

pub slice_bounds-made-end : goal.slice_bounds-made-end
slice_bounds-made-end c = part_in _ _ _ c.gather_returns-got.auto.out (cells_in (ready _ _ _ _ _ _ _ _ _ _ _ _ _ _ _ _ _ _ _ c.wanted_by-wanted.ensures c.judge-said.ensures c.gather_returns-got.ensures c.judge_gathered-said.ensures c.in-Ok.is _ c.height_of-height.ensures))

pub overflow_mul-cells : goal.overflow_mul-cells
overflow_mul-cells c = part_word _ _ c.gather_returns-got.auto.out (part_in _ _ _ c.gather_returns-got.auto.out (cells_in (ready _ _ _ _ _ _ _ _ _ _ _ _ _ _ _ _ _ _ _ c.wanted_by-wanted.ensures c.judge-said.ensures c.gather_returns-got.ensures c.judge_gathered-said.ensures c.in-Ok.is _ c.height_of-height.ensures)))

pub slice_bounds-held-end : goal.slice_bounds-held-end
slice_bounds-held-end c = sym (length-take-le _ _ (part_in _ _ _ c.gather_returns-got.auto.out (cells_in (ready _ _ _ _ _ _ _ _ _ _ _ _ _ _ _ _ _ _ _ c.wanted_by-wanted.ensures c.judge-said.ensures c.gather_returns-got.ensures c.judge_gathered-said.ensures c.in-Ok.is _ c.height_of-height.ensures))))

pub gather_covariance-requires : goal.gather_covariance-requires
gather_covariance-requires c = let z = ready _ _ _ _ _ _ _ _ _ _ _ _ _ _ _ _ _ _ _ c.wanted_by-wanted.ensures c.judge-said.ensures c.gather_returns-got.ensures c.judge_gathered-said.ensures c.in-Ok.is _ c.height_of-height.ensures in record {
  out_len = refl;
  n_value = z.sized;
  coverable = z.coverable;
}

pub gather_expected-hopes-requires : goal.gather_expected-hopes-requires
gather_expected-hopes-requires c = let z = ready _ _ _ _ _ _ _ _ _ _ _ _ _ _ _ _ _ _ _ c.wanted_by-wanted.ensures c.judge-said.ensures c.gather_returns-got.ensures c.judge_gathered-said.ensures c.in-Ok.is _ c.height_of-height.ensures in record {
  out_len = refl;
  n_value = z.sized;
  hopeful = hopeful z _ c.wanted_by-wanted.ensures;
}

pub slice_bounds-cov-end : goal.slice_bounds-cov-end
slice_bounds-cov-end c = part_in _ _ _ c.gather_covariance.auto.out (area_in (ready _ _ _ _ _ _ _ _ _ _ _ _ _ _ _ _ _ _ _ c.wanted_by-wanted.ensures c.judge-said.ensures c.gather_returns-got.ensures c.judge_gathered-said.ensures c.in-Ok.is _ c.height_of-height.ensures))

pub overflow_mul-area : goal.overflow_mul-area
overflow_mul-area c = part_word _ _ c.gather_covariance.auto.out (part_in _ _ _ c.gather_covariance.auto.out (area_in (ready _ _ _ _ _ _ _ _ _ _ _ _ _ _ _ _ _ _ _ c.wanted_by-wanted.ensures c.judge-said.ensures c.gather_returns-got.ensures c.judge_gathered-said.ensures c.in-Ok.is _ c.height_of-height.ensures)))

pub slice_bounds-hoped-end : goal.slice_bounds-hoped-end
slice_bounds-hoped-end c = part_in _ _ _ c.gather_expected-hopes.auto.out (hopes_in (ready _ _ _ _ _ _ _ _ _ _ _ _ _ _ _ _ _ _ _ c.wanted_by-wanted.ensures c.judge-said.ensures c.gather_returns-got.ensures c.judge_gathered-said.ensures c.in-Ok.is _ c.height_of-height.ensures) _ _ c.gather_expected-hopes.ensures.value)

pub slice_bounds-allocate_covariance-end : goal.slice_bounds-allocate_covariance-end
slice_bounds-allocate_covariance-end c = sym (length-take-le _ _ (part_in _ _ _ c.gather_covariance.auto.out (area_in (ready _ _ _ _ _ _ _ _ _ _ _ _ _ _ _ _ _ _ _ c.wanted_by-wanted.ensures c.judge-said.ensures c.gather_returns-got.ensures c.judge_gathered-said.ensures c.in-Ok.is _ c.height_of-height.ensures))))

pub slice_bounds-allocate_covariance-end-2 : goal.slice_bounds-allocate_covariance-end-2
slice_bounds-allocate_covariance-end-2 c = sym (length-take-le _ _ (part_in _ _ _ c.gather_expected-hopes.auto.out (hopes_in (ready _ _ _ _ _ _ _ _ _ _ _ _ _ _ _ _ _ _ _ c.wanted_by-wanted.ensures c.judge-said.ensures c.gather_returns-got.ensures c.judge_gathered-said.ensures c.in-Ok.is _ c.height_of-height.ensures) _ _ c.gather_expected-hopes.ensures.value)))

pub shape_of-rows : goal.shape_of-rows
shape_of-rows c = c.allocate_covariance.auto.rows

pub shape_of-order : goal.shape_of-order
shape_of-order c = c.allocate_covariance.auto.order

pub shape_of-weights : goal.shape_of-weights
shape_of-weights c = c.allocate_covariance.auto.weights

pub shape_of-scratch : goal.shape_of-scratch
shape_of-scratch c = c.allocate_covariance.auto.scratch

pub returns : goal.returns
returns c = ended_done _ _ _ _ _ _ _ _ _ _ _ _ _ _ _ _ _ _ _ _ _ _ _ _ _ c.metric_named-read.ensures c.metric_of-used.ensures c.wanted_by-wanted.ensures c.freq_step-step.ensures c.judge-said.ensures c.gather_returns-got.ensures c.judge_gathered-said.ensures _ _ _ _ _ _ _ _ _ c.in-Ok.is c.height_of-height.ensures c.count_of.ensures c.gather_covariance.ensures c.gather_expected-hopes.ensures.out_after c.allocate_covariance.ensures
