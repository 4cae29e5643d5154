-- `distances::add_row` meets its contract. Assumes nothing.
use mathlib.Core.Path.{refl}
use native.Mathlib.Omega.{arith}
use Rattle.distances.specs.Distances.{square}
use Rattle.distances.proofs.Laws.{row_added, row_mended}
use Rattle.distances.proofs.add_row.Goals as goal

pub returns-then-i-k : goal.returns-then-i-k
unfolding square
returns-then-i-k c =
    row_mended _ _ _ _ _ _ _ _ c.add_squares.ensures c.off_diagonal-x.ensures (c.requires.held.entry _ (omega (arith, c.if-i-k.true)) c.requires.k_lt_n) refl c.if-i-k.true c.requires.k_lt_n

pub returns-else-i-k : goal.returns-else-i-k
returns-else-i-k c = row_added _ _ _ _ _ _ c.add_squares.ensures c.off_diagonal-x.ensures c.if-i-k.false
