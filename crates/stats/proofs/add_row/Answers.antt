-- `stats::add_row` meets its contract. The sums before j have row r's product, and those from j on not yet. Assumes nothing.
use native.Mathlib.Omega.{arith}
use Rattle.lent.proofs.Held.{held_step, held_rest}
use Rattle.stats.proofs.Laws.{products_term}
use Rattle.stats.proofs.add_row.Goals as goal

pub loop-j-preserved : goal.loop-j-preserved
loop-j-preserved c =
    let t = products_term _ _ _ _ _ _ _ _ _ c.loop-j.invariant.1 (omega arith) c.at.ensures c.at-in-loop-j.ensures in
    (held_step _ _ _ _ _ c.loop-j.invariant.0 t (omega (arith, c.loop-j.invariant.1.size)), held_rest _ _ _ _ _ c.loop-j.invariant.1)
