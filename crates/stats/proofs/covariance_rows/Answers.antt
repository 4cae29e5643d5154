-- `stats::covariance_rows` meets its contract. What is written so far is i rows. Assumes nothing.
use native.Mathlib.Omega.{arith}
use Rattle.lent.proofs.Fill.{rows_start, rows_keep, rows_step}
use Rattle.stats.proofs.covariance_rows.Goals as goal

pub loop-i-init : goal.loop-i-init
loop-i-init c = rows_start _ _ _

pub covariance_row-requires-clause-out_value : goal.covariance_row-requires-clause-out_value
covariance_row-requires-clause-out_value c = rows_keep _ _ _ _ _ _ c.loop-i.invariant (omega arith) c.requires.w_in_bounds

pub loop-i-preserved : goal.loop-i-preserved
loop-i-preserved c = rows_step _ _ _ _ _ _ _ c.covariance_row.ensures c.loop-i.invariant (omega arith) c.requires.w_in_bounds
