-- `hrp::allocate` meets its contract. Assumes nothing.
use mathlib.Core.Path.{refl, sym}
use native.Mathlib.Omega.{arith}
use lib.Seq.{length-take-le}
use Rattle.lent.proofs.Laws.{square_in}
use Rattle.hrp.specs.Hrp.{HrpJob}
use Rattle.hrp.proofs.Judged.{fitting, few_assets, ends_given, ends_refused, ends_made}
use Rattle.hrp.proofs.allocate.Goals as goal

pub returns-then-is_given : goal.returns-then-is_given
returns-then-is_given c =
    let j : HrpJob = record { assets = c.args.assets; prices = c.args.prices.now; prices_shape = c.args.prices_shape; returns = c.args.returns.now; returns_shape = c.args.returns_shape; covariance = c.args.covariance.now; covariance_shape = c.args.covariance_shape; resample_by = c.args.resample_by.now; use_shrinkage = c.args.use_shrinkage; distance = c.args.distance } in
    ends_given j _ c.freq_step-step.ensures _ _ c.judge-said.ensures _ c.is_given.ensures c.if-is_given.true _ _ _ _ _ _ _ c.allocate_covariance.ensures

pub gather-requires : goal.gather-requires
gather-requires c = let j : HrpJob = record { assets = c.args.assets; prices = c.args.prices.now; prices_shape = c.args.prices_shape; returns = c.args.returns.now; returns_shape = c.args.returns_shape; covariance = c.args.covariance.now; covariance_shape = c.args.covariance_shape; resample_by = c.args.resample_by.now; use_shrinkage = c.args.use_shrinkage; distance = c.args.distance } in
    record {
      out_len = refl;
      hrp_fitting = fitting j _ c.freq_step-step.ensures _ _ c.judge-said.ensures;
    }

pub returns-in-Err : goal.returns-in-Err
returns-in-Err c =
    let j : HrpJob = record { assets = c.args.assets; prices = c.args.prices.now; prices_shape = c.args.prices_shape; returns = c.args.returns.now; returns_shape = c.args.returns_shape; covariance = c.args.covariance.now; covariance_shape = c.args.covariance_shape; resample_by = c.args.resample_by.now; use_shrinkage = c.args.use_shrinkage; distance = c.args.distance } in
    ends_refused j _ c.freq_step-step.ensures _ _ c.judge-said.ensures _ _ (rw c.in-Err.is at c.gather.ensures) _ _ _ _ _ _ _ refl c.clear_with_matrices.ensures

pub overflow_mul-m : goal.overflow_mul-m
overflow_mul-m c =
    let j : HrpJob = record { assets = c.args.assets; prices = c.args.prices.now; prices_shape = c.args.prices_shape; returns = c.args.returns.now; returns_shape = c.args.returns_shape; covariance = c.args.covariance.now; covariance_shape = c.args.covariance_shape; resample_by = c.args.resample_by.now; use_shrinkage = c.args.use_shrinkage; distance = c.args.distance } in
    omega (arith, square_in _ (few_assets j _ c.freq_step-step.ensures _ _ c.judge-said.ensures _ _ c.gather.ensures c.in_default.is))

pub slice_bounds-made-end : goal.slice_bounds-made-end
slice_bounds-made-end c =
    let j : HrpJob = record { assets = c.args.assets; prices = c.args.prices.now; prices_shape = c.args.prices_shape; returns = c.args.returns.now; returns_shape = c.args.returns_shape; covariance = c.args.covariance.now; covariance_shape = c.args.covariance_shape; resample_by = c.args.resample_by.now; use_shrinkage = c.args.use_shrinkage; distance = c.args.distance } in
    omega (arith, square_in _ (few_assets j _ c.freq_step-step.ensures _ _ c.judge-said.ensures _ _ c.gather.ensures c.in_default.is), c.gather.auto.out)

pub slice_bounds-allocate_covariance-end : goal.slice_bounds-allocate_covariance-end
slice_bounds-allocate_covariance-end c =
    let j : HrpJob = record { assets = c.args.assets; prices = c.args.prices.now; prices_shape = c.args.prices_shape; returns = c.args.returns.now; returns_shape = c.args.returns_shape; covariance = c.args.covariance.now; covariance_shape = c.args.covariance_shape; resample_by = c.args.resample_by.now; use_shrinkage = c.args.use_shrinkage; distance = c.args.distance } in
    sym (length-take-le _ _ (omega (arith, square_in _ (few_assets j _ c.freq_step-step.ensures _ _ c.judge-said.ensures _ _ c.gather.ensures c.in_default.is), c.gather.auto.out)))

pub returns : goal.returns
returns c =
    let j : HrpJob = record { assets = c.args.assets; prices = c.args.prices.now; prices_shape = c.args.prices_shape; returns = c.args.returns.now; returns_shape = c.args.returns_shape; covariance = c.args.covariance.now; covariance_shape = c.args.covariance_shape; resample_by = c.args.resample_by.now; use_shrinkage = c.args.use_shrinkage; distance = c.args.distance } in
    ends_made j _ c.freq_step-step.ensures _ _ c.judge-said.ensures _ _ c.gather.ensures _ _ _ _ _ _ _ c.is_given.ensures c.if-is_given.false _ c.in_default.is c.allocate_covariance-2.ensures
