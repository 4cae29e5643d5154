-- `resample::sample` meets its contract. What is written so far is r rows. Assumes nothing.
use native.Mathlib.Omega.{arith}
use Rattle.lent.proofs.Fill.{rows_start, rows_keep, rows_step}
use Rattle.resample.specs.Resample.{kept_rows, sampled_cell}
use Rattle.resample.proofs.sample.Goals as goal

pub loop-r-init : goal.loop-r-init
loop-r-init c = rows_start _ _ _

pub sample_row-requires-clause-out_value : goal.sample_row-requires-clause-out_value
sample_row-requires-clause-out_value c = rows_keep _ _ _ _ _ (kept_rows c.args.rows c.args.step) c.loop-r.invariant (omega arith) c.requires.columns_in_bounds

pub loop-r-preserved : goal.loop-r-preserved
loop-r-preserved c =
    let f = sampled_cell c.args.prices.now c.args.rows c.args.columns c.args.step in
    rows_step _ f _ _ _ _ (kept_rows c.args.rows c.args.step) c.sample_row.ensures c.loop-r.invariant (omega arith) c.requires.columns_in_bounds
