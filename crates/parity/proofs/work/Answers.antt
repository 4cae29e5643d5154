-- `parity::work` meets its contract. Assumes nothing.
use Prim.Native.Nat.{◌*◌, ◌≤◌}
use mathlib.Core.Path.{sym, ◌∙◌}
use native.Mathlib.Omega.{arith}
use lib.ListN.{length}
use lib.Seq.{length-take-le, length_front}
use Rattle.std.proofs.lemmas.Result.{err_from_is_err_and}
use Rattle.lent.proofs.Laws.{square_in}
use Rattle.arranging.proofs.Laws.{told_ok, told_err}
use Rattle.parity.proofs.Laws.{length_alike, low_refused, low_done, correlations_front}
use Rattle.parity.proofs.Answers.{ready, worked_refused, worked_low, arranged_never, alike_never, far_never, worked_done}
use Rattle.parity.proofs.work.Goals as goal

pub returns-in_err-judge_covariance : goal.returns-in_err-judge_covariance
returns-in_err-judge_covariance c =
    let e = err_from_is_err_and c.from_residual.result c.from_residual.ensures.1 in
    rw (e.1, e.2) (worked_refused c.args.distance c.args.covariance.now c.args.n _ _ _ _ _ _ _ _ _ (sym c.judge_covariance.ensures ∙ c.in_err-judge_covariance.was))

pub returns-in_err-cov2corr : goal.returns-in_err-cov2corr
returns-in_err-cov2corr c =
    let e = err_from_is_err_and c.from_residual-in_err-cov2corr.result c.from_residual-in_err-cov2corr.ensures.1 in
    let p = (ready _ _ c.args.rows_in c.args.n _ c.judge_covariance.ensures).sized c.in_ok-judge_covariance.was in
    rw (e.1, e.2) (worked_low c.args.distance c.args.covariance.now c.args.n _ _ _ _ _ _ _ _ _ (sym c.judge_covariance.ensures ∙ c.in_ok-judge_covariance.was) (low_refused c.args.n p.some p.few c.args.covariance.now p.cells _ p.for_distances _ c.cov2corr.ensures.value _ c.in_err-cov2corr.was))

pub overflow_mul-m : goal.overflow_mul-m
overflow_mul-m c =
    let p = (ready _ _ c.args.rows_in c.args.n _ c.judge_covariance.ensures).sized c.in_ok-judge_covariance.was in
    omega (arith, square_in _ p.few)

pub slice_bounds-alike-end : goal.slice_bounds-alike-end
slice_bounds-alike-end c =
    let p = (ready _ _ c.args.rows_in c.args.n _ c.judge_covariance.ensures).sized c.in_ok-judge_covariance.was in
    omega (arith, p.for_distances, c.cov2corr.auto.out)

pub slice_bounds-alike-end-2 : goal.slice_bounds-alike-end-2
slice_bounds-alike-end-2 c =
    let p = (ready _ _ c.args.rows_in c.args.n _ c.judge_covariance.ensures).sized c.in_ok-judge_covariance.was in
    sym (length-take-le _ _ (omega (arith, p.for_distances, c.cov2corr.auto.out)))

pub slice_bounds-arrange-end : goal.slice_bounds-arrange-end
slice_bounds-arrange-end c =
    let p = (ready _ _ c.args.rows_in c.args.n _ c.judge_covariance.ensures).sized c.in_ok-judge_covariance.was in
    omega (arith, square_in _ p.few, p.for_scratch)

pub slice_bounds-arrange-end-2 : goal.slice_bounds-arrange-end-2
slice_bounds-arrange-end-2 c =
    let p = (ready _ _ c.args.rows_in c.args.n _ c.judge_covariance.ensures).sized c.in_ok-judge_covariance.was in
    sym (length-take-le _ _ (omega (arith, square_in _ p.few, p.for_scratch)))

pub slice_bounds-leaves-end : goal.slice_bounds-leaves-end
slice_bounds-leaves-end c =
    let p = (ready _ _ c.args.rows_in c.args.n _ c.judge_covariance.ensures).sized c.in_ok-judge_covariance.was in
    omega (arith, p.for_order, c.arrange.auto.order)

pub slice_bounds-leaves-end-2 : goal.slice_bounds-leaves-end-2
slice_bounds-leaves-end-2 c =
    let p = (ready _ _ c.args.rows_in c.args.n _ c.judge_covariance.ensures).sized c.in_ok-judge_covariance.was in
    sym (length-take-le _ _ (omega (arith, p.for_order, c.arrange.auto.order)))

pub slice_bounds-far-end : goal.slice_bounds-far-end
slice_bounds-far-end c =
    let p = (ready _ _ c.args.rows_in c.args.n _ c.judge_covariance.ensures).sized c.in_ok-judge_covariance.was in
    omega (arith, square_in _ p.few, p.for_scratch, length_front c.args.scratch.now c.arrange.new.distances (c.args.n * c.args.n) c.arrange.auto.distances)

pub slice_bounds-far-end-2 : goal.slice_bounds-far-end-2
slice_bounds-far-end-2 c =
    let p = (ready _ _ c.args.rows_in c.args.n _ c.judge_covariance.ensures).sized c.in_ok-judge_covariance.was in
    sym (length-take-le _ _ (omega (arith, square_in _ p.few, p.for_scratch, length_front c.args.scratch.now c.arrange.new.distances (c.args.n * c.args.n) c.arrange.auto.distances)))

pub returns-in_err-arrange : goal.returns-in_err-arrange
returns-in_err-arrange c =
    let p = (ready _ _ c.args.rows_in c.args.n _ c.judge_covariance.ensures).sized c.in_ok-judge_covariance.was in
    let q = correlations_front c.args.n p.some p.few c.args.covariance.now p.cells _ p.for_distances _ c.cov2corr.ensures.value _ c.in_ok-cov2corr.was _ c.cov2corr.ensures.out_after in
    let m : c.args.n * c.args.n ≤ length c.args.scratch.now = omega (arith, square_in _ p.few, p.for_scratch) in
    absurd (arranged_never c.args.distance c.args.covariance.now c.args.n c.judge_covariance.result _ _ _ c.args.weights.now c.args.weights.now c.args.weights.now c.args.weights.now p _ _ c.args.weights.now q (length_alike c.args.covariance.now _ c.args.n q) _ (length-take-le _ _ m) c.arrange.auto.distances _ c.arrange.ensures _ c.in_err-arrange.was)

pub returns-in_err-seriate_matrix : goal.returns-in_err-seriate_matrix
returns-in_err-seriate_matrix c =
    let p = (ready _ _ c.args.rows_in c.args.n _ c.judge_covariance.ensures).sized c.in_ok-judge_covariance.was in
    let q = correlations_front c.args.n p.some p.few c.args.covariance.now p.cells _ p.for_distances _ c.cov2corr.ensures.value _ c.in_ok-cov2corr.was _ c.cov2corr.ensures.out_after in
    let m : c.args.n * c.args.n ≤ length c.args.scratch.now = omega (arith, square_in _ p.few, p.for_scratch) in
    absurd (alike_never c.args.distance c.args.covariance.now c.args.n c.judge_covariance.result _ _ _ c.args.weights.now c.args.weights.now c.args.weights.now c.args.weights.now p _ _ c.args.weights.now q (length_alike c.args.covariance.now _ c.args.n q) _ (length-take-le _ _ m) c.arrange.auto.distances _ c.arrange.ensures _ p.for_correlations _ c.seriate_matrix.ensures.value _ c.in_err-seriate_matrix.was)

pub returns-in_err-seriate_matrix-2 : goal.returns-in_err-seriate_matrix-2
returns-in_err-seriate_matrix-2 c =
    let p = (ready _ _ c.args.rows_in c.args.n _ c.judge_covariance.ensures).sized c.in_ok-judge_covariance.was in
    let q = correlations_front c.args.n p.some p.few c.args.covariance.now p.cells _ p.for_distances _ c.cov2corr.ensures.value _ c.in_ok-cov2corr.was _ c.cov2corr.ensures.out_after in
    let m : c.args.n * c.args.n ≤ length c.args.scratch.now = omega (arith, square_in _ p.few, p.for_scratch) in
    absurd (far_never c.args.distance c.args.covariance.now c.args.n c.judge_covariance.result _ _ _ c.args.weights.now c.args.weights.now c.args.weights.now c.args.weights.now p _ _ _ q (length_alike c.args.covariance.now _ c.args.n q) _ (length-take-le _ _ m) c.arrange.auto.distances _ c.arrange.ensures _ (omega (arith, p.for_distances, c.cov2corr.auto.out)) _ c.seriate_matrix-2.ensures.value _ c.in_err-seriate_matrix-2.was)

pub returns-in_err-recursive_bisection_min_var : goal.returns-in_err-recursive_bisection_min_var
returns-in_err-recursive_bisection_min_var c =
    let e = err_from_is_err_and c.from_residual-in_err-recursive_bisection_min_var.result c.from_residual-in_err-recursive_bisection_min_var.ensures.1 in
    let p = (ready _ _ c.args.rows_in c.args.n _ c.judge_covariance.ensures).sized c.in_ok-judge_covariance.was in
    let q = correlations_front c.args.n p.some p.few c.args.covariance.now p.cells _ p.for_distances _ c.cov2corr.ensures.value _ c.in_ok-cov2corr.was _ c.cov2corr.ensures.out_after in
    let m : c.args.n * c.args.n ≤ length c.args.scratch.now = omega (arith, square_in _ p.few, p.for_scratch) in
    let low = low_done c.args.n p.some p.few c.args.covariance.now p.cells _ p.for_distances _ c.cov2corr.ensures.value _ c.in_ok-cov2corr.was in
    let kept = length_front c.args.scratch.now c.arrange.new.distances (c.args.n * c.args.n) c.arrange.auto.distances in
    rw (e.1, e.2) (worked_done c.args.distance c.args.covariance.now c.args.n _ _ _ _ _ _ _ _ p _ _ _ q (length_alike c.args.covariance.now _ c.args.n q) _ (length-take-le _ _ m) c.arrange.auto.distances _ c.arrange.ensures _ _ (sym c.judge_covariance.ensures ∙ c.in_ok-judge_covariance.was) low c.seriate_matrix.ensures.out_after _ c.cov2corr.auto.out c.seriate_matrix-2.ensures.out_after _ kept c.clear.ensures c.recursive_bisection_min_var.ensures.value (told_err _ _ c.in_err-recursive_bisection_min_var.was) c.recursive_bisection_min_var.ensures.out_after)

pub returns : goal.returns
returns c =
    let p = (ready _ _ c.args.rows_in c.args.n _ c.judge_covariance.ensures).sized c.in_ok-judge_covariance.was in
    let q = correlations_front c.args.n p.some p.few c.args.covariance.now p.cells _ p.for_distances _ c.cov2corr.ensures.value _ c.in_ok-cov2corr.was _ c.cov2corr.ensures.out_after in
    let m : c.args.n * c.args.n ≤ length c.args.scratch.now = omega (arith, square_in _ p.few, p.for_scratch) in
    let low = low_done c.args.n p.some p.few c.args.covariance.now p.cells _ p.for_distances _ c.cov2corr.ensures.value _ c.in_ok-cov2corr.was in
    let kept = length_front c.args.scratch.now c.arrange.new.distances (c.args.n * c.args.n) c.arrange.auto.distances in
    (worked_done c.args.distance c.args.covariance.now c.args.n _ _ _ _ _ _ _ _ p _ _ _ q (length_alike c.args.covariance.now _ c.args.n q) _ (length-take-le _ _ m) c.arrange.auto.distances _ c.arrange.ensures _ _ (sym c.judge_covariance.ensures ∙ c.in_ok-judge_covariance.was) low c.seriate_matrix.ensures.out_after _ c.cov2corr.auto.out c.seriate_matrix-2.ensures.out_after _ kept c.clear.ensures c.recursive_bisection_min_var.ensures.value (told_ok _ _ c.in_ok-recursive_bisection_min_var.was) c.recursive_bisection_min_var.ensures.out_after)
