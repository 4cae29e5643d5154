-- `resample::sample_row` meets its contract. What is written so far is the rows above and c cells of row r. Assumes nothing.
use native.Mathlib.Omega.{arith}
use Rattle.lent.proofs.Laws.{cell_in}
use Rattle.lent.proofs.Fill.{cells_start, cells_step, cells_end}
use Rattle.resample.proofs.Laws.{kept_lt, sampled_stored}
use Rattle.resample.proofs.sample_row.Goals as goal

pub loop-c-init : goal.loop-c-init
loop-c-init c = cells_start _ _ _ _ c.requires.out_value

pub at-price-requires : goal.at-price-requires
at-price-requires c =
    let k = kept_lt _ _ _ c.requires.r_bound in
    cell_in c.args.prices.now _ _ _ _ c.requires.prices_len (omega arith) (omega arith)

pub loop-c-preserved : goal.loop-c-preserved
loop-c-preserved c =
    let v = sampled_stored _ _ _ _ _ _ _ _ _ c.settled.ensures c.at-price.ensures c.kept_row-from.ensures in
    cells_step _ _ _ _ _ _ _ _ _ c.put.ensures c.loop-c.invariant v c.requires.r_bound (omega arith) c.requires.columns_in_bounds

pub returns : goal.returns
returns c = cells_end _ _ _ _ _ _ c.loop-c.invariant (omega arith) (omega arith)
