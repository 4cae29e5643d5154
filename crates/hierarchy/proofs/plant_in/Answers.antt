-- `hierarchy::plant_in` meets its contract. Assumes nothing.
use Prim.Native.Nat.{◌*◌}
use mathlib.Core.Path.{sym}
use native.Mathlib.Omega.{arith}
use lib.Seq.{length-take-le, length_front}
use Rattle.std.proofs.lemmas.Result.{err_from_is_err_and}
use Rattle.lent.proofs.Laws.{square_in}
use Rattle.hierarchy.proofs.Laws.{planted_low, planted}
use Rattle.hierarchy.proofs.plant_in.Goals as goal

pub overflow_mul-m : goal.overflow_mul-m
overflow_mul-m c = omega (arith, square_in _ c.requires.few)

pub slice_bounds-cov2corr-end : goal.slice_bounds-cov2corr-end
slice_bounds-cov2corr-end c = c.requires.for_corr

pub slice_bounds-cov2corr-end-2 : goal.slice_bounds-cov2corr-end-2
slice_bounds-cov2corr-end-2 c = sym (length-take-le _ _ c.requires.for_corr)

pub returns-in_err-cov2corr : goal.returns-in_err-cov2corr
returns-in_err-cov2corr c =
    let e = err_from_is_err_and c.from_residual.result c.from_residual.ensures.1 in
    rw (e.1, e.2) (planted_low c.args.distance c.args.linkage c.args.covariance.now c.args.n _ _ _ _ _ _ c.requires (length-take-le _ _ c.requires.for_corr) c.cov2corr.ensures.value _ _ _ c.in_err-cov2corr.was)

pub slice_bounds-arrange-end : goal.slice_bounds-arrange-end
slice_bounds-arrange-end c = omega (arith, c.requires.for_corr, length_front c.args.corr.now c.cov2corr.new.out (c.args.n * c.args.n) c.cov2corr.auto.out)

pub slice_bounds-arrange-end-3 : goal.slice_bounds-arrange-end-3
slice_bounds-arrange-end-3 c = c.requires.for_scratch

pub slice_bounds-arrange-end-4 : goal.slice_bounds-arrange-end-4
slice_bounds-arrange-end-4 c = sym (length-take-le _ _ c.requires.for_scratch)

pub returns : goal.returns
returns c =
    planted c.args.distance c.args.linkage c.args.covariance.now c.args.n _ _ _ _ _ _ c.requires (length-take-le _ _ c.requires.for_corr) c.cov2corr.ensures.value _ _ c.cov2corr.auto.out c.cov2corr.ensures.out_after _ c.in_ok-cov2corr.was _ _ _ _ _ (length-take-le _ _ c.requires.for_scratch) c.arrange.ensures
