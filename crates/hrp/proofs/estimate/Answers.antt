-- `hrp::estimate` meets its contract. Assumes nothing.
use mathlib.Core.Path.{refl, sym}
use native.Mathlib.Omega.{arith}
use lib.Seq.{length-take-le}
use Rattle.std.proofs.lemmas.Result.{err_from_is_err_and}
use Rattle.arranging.proofs.Laws.{told_ok, told_err}
use Rattle.hrp.proofs.Estimates.{cells_fit, estimated_refused, estimated_plain, shrink_never, estimated_shrunk}
use Rattle.hrp.proofs.estimate.Goals as goal

pub overflow_mul-m : goal.overflow_mul-m
overflow_mul-m c = omega (arith, cells_fit _ _ _ c.requires.n_value)

pub slice_bounds-plain-end : goal.slice_bounds-plain-end
slice_bounds-plain-end c = omega (arith, cells_fit _ _ _ c.requires.n_value, c.covariance.auto.out)

pub slice_bounds-shrink_covariance-end : goal.slice_bounds-shrink_covariance-end
slice_bounds-shrink_covariance-end c = sym (length-take-le _ _ (omega (arith, cells_fit _ _ _ c.requires.n_value, c.covariance.auto.out)))

pub returns-in_err-covariance : goal.returns-in_err-covariance
returns-in_err-covariance c =
    let e = err_from_is_err_and c.from_residual.result c.from_residual.ensures.1 in
    rw (e.1, e.2) (estimated_refused c.args.returns.now c.args.rows c.args.n c.requires.n_value _ _ (told_err _ _ c.in_err-covariance.was) _ refl c.covariance.ensures.value _ _ _ refl)

pub returns-in_err-shrink_covariance : goal.returns-in_err-shrink_covariance
returns-in_err-shrink_covariance c =
    absurd (shrink_never c.args.returns.now c.args.rows c.args.n c.requires.n_value _ _ (told_ok _ _ c.in_ok-covariance.was) _ refl c.covariance.ensures.value _ _ c.requires.out_len c.covariance.ensures.out_after refl _ c.shrink_covariance.ensures.value _ c.in_err-shrink_covariance.was)

pub returns-then-use_shrinkage : goal.returns-then-use_shrinkage
returns-then-use_shrinkage c =
    estimated_shrunk c.args.returns.now c.args.rows c.args.n c.requires.n_value _ _ (told_ok _ _ c.in_ok-covariance.was) _ refl c.covariance.ensures.value _ _ _ _ c.requires.out_len c.if-use_shrinkage.true c.covariance.ensures.out_after c.shrink_covariance.ensures.out_after

pub returns-in_err-covariance-2 : goal.returns-in_err-covariance-2
returns-in_err-covariance-2 c =
    let e = err_from_is_err_and c.from_residual-in_err-covariance-2.result c.from_residual-in_err-covariance-2.ensures.1 in
    rw (e.1, e.2) (estimated_refused c.args.returns.now c.args.rows c.args.n c.requires.n_value _ _ (told_err _ _ c.in_err-covariance-2.was) _ c.requires.out_len c.covariance-2.ensures.value _ _ _ refl)

pub returns : goal.returns
returns c =
    estimated_plain c.args.returns.now c.args.rows c.args.n c.requires.n_value _ _ (told_ok _ _ c.in_ok-covariance-2.was) _ c.requires.out_len c.covariance-2.ensures.value _ _ c.if-use_shrinkage.false c.covariance-2.ensures.out_after
