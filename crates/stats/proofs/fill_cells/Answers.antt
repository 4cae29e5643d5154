-- `stats::fill_cells` meets its contract. What is written so far is the rows above and j cells of row i. Assumes nothing.
use native.Mathlib.Omega.{arith}
use Rattle.lent.proofs.Fill.{rows_start, rows_keep, rows_step, cells_start, cells_step, cells_end}
use Rattle.stats.proofs.fill_cells.Goals as goal

pub loop-i-init : goal.loop-i-init
loop-i-init g c = λ h told. rows_start _ _ _

pub loop-j-init : goal.loop-j-init
loop-j-init g c = λ h told keep. cells_start _ _ _ _ keep

pub loop-j-preserved : goal.loop-j-preserved
loop-j-preserved g c = λ h told keep.
    cells_step _ _ _ _ _ _ _ _ c.args.n c.put.ensures (c.loop-j.invariant h told keep) (told c.loop-i.i c.loop-j.j c.f.result (omega arith) (omega arith) c.f.ensures)
    (omega arith) (omega arith) (omega arith)

pub loop-i-preserved : goal.loop-i-preserved
loop-i-preserved g c = λ h told.
    let keep = rows_keep _ _ _ _ _ _ (c.loop-i.invariant h told) (omega arith) c.requires.n_in_bounds in
    let row = cells_end _ _ _ _ _ _ (c.loop-j.invariant h told keep) (omega arith) (omega arith) in
    rows_step _ _ _ _ _ _ _ row (c.loop-i.invariant h told) (omega arith) c.requires.n_in_bounds
