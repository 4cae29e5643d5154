-- `distances::add_squares` meets its contract. The sums before j have row k's square, and those from j on not yet. Assumes nothing.
use native.Mathlib.Omega.{arith}
use Rattle.lent.proofs.Held.{held_step, held_rest}
use Rattle.distances.proofs.Laws.{squares_term}
use Rattle.distances.proofs.add_squares.Goals as goal

pub loop-j-preserved : goal.loop-j-preserved
loop-j-preserved c =
    let t = squares_term _ _ _ _ _ _ _ _ c.loop-j.invariant.1 (omega arith) c.at.ensures in
    (held_step _ _ _ _ _ c.loop-j.invariant.0 t (omega (arith, c.loop-j.invariant.1.size)), held_rest _ _ _ _ _ c.loop-j.invariant.1)
