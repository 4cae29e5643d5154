-- `arranging::arrange` meets its contract. Assumes nothing.
use mathlib.Core.Path.{refl, sym, ◌∙◌}
use native.Mathlib.Omega.{arith}
use lib.Seq.{length-take-le}
use Rattle.arranging.proofs.Laws.{arrangeable, distances_never, order_never, arranged_refused, arranged_done}
use Rattle.arranging.proofs.arrange.Goals as goal

pub returns-in-Err : goal.returns-in-Err
returns-in-Err c =
    arranged_refused c.args.of c.args.distance c.args.linkage c.args.corr.now c.args.rows_in c.args.columns _ _ _ _ _ (sym c.in-Err.is ∙ c.judge.ensures) _ refl c.clear_all.ensures.rows_after c.clear_all.ensures.order_after c.clear_all.ensures.distances_after

pub slice_bounds-far-end-2 : goal.slice_bounds-far-end-2
slice_bounds-far-end-2 c =
    let p = arrangeable _ _ _ _ (sym c.judge.ensures ∙ c.in_default.is) in
    sym (length-take-le _ _ (omega (arith, p.for_distances, c.corr_to_distances.auto.out)))

pub link-requires-clause-d_len : goal.link-requires-clause-d_len
link-requires-clause-d_len c =
    let p = arrangeable _ _ _ _ (sym c.judge.ensures ∙ c.in_default.is) in
    length-take-le _ _ (omega (arith, p.for_distances, c.corr_to_distances.auto.out))

pub slice_bounds-quasi_diagonalization-end-2 : goal.slice_bounds-quasi_diagonalization-end-2
slice_bounds-quasi_diagonalization-end-2 c =
    let p = arrangeable _ _ _ _ (sym c.judge.ensures ∙ c.in_default.is) in
    sym (length-take-le _ _ (omega (arith, p.for_rows, c.link.auto.rows)))

pub returns : goal.returns
returns c =
    arranged_done c.args.of c.args.distance c.args.linkage c.args.corr.now c.args.rows_in c.args.columns _ _ _ _ _ (sym c.in_default.is ∙ c.judge.ensures) refl c.corr_to_distances.ensures.out_after c.link.ensures c.quasi_diagonalization.ensures.out_after

pub returns-in_err-corr_to_distances : goal.returns-in_err-corr_to_distances
returns-in_err-corr_to_distances c =
    absurd (distances_never c.args.of c.args.distance c.args.linkage c.args.corr.now c.args.rows_in c.args.columns _ _ c.args.rows.now c.args.order.now c.args.distances.now (sym c.in_default.is ∙ c.judge.ensures) refl _ _ c.corr_to_distances.ensures.value c.in_err-corr_to_distances.was)

pub returns-in_err-quasi_diagonalization : goal.returns-in_err-quasi_diagonalization
returns-in_err-quasi_diagonalization c =
    absurd (order_never c.args.of c.args.distance c.args.linkage c.args.corr.now c.args.rows_in c.args.columns _ _ _ c.args.order.now _ (sym c.in_default.is ∙ c.judge.ensures) refl c.corr_to_distances.ensures.out_after c.link.ensures _ _ c.quasi_diagonalization.ensures.value c.in_err-quasi_diagonalization.was)
