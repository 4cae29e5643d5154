-- `arithmetic::min` meets its contract. Assumes nothing.
use Rattle.std.proofs.Common.{◌∙◌}
use Rattle.arithmetic.specs.Arithmetic.{min_of}
use Rattle.arithmetic.proofs.Facts.{nan_if}
use Rattle.arithmetic.proofs.min.Goals as goal

pub returns-then-x : goal.returns-then-x
unfolding min_of
returns-then-x c = c.settled.ensures ∙ rw (nan_if _ _ c.if-x.true)

pub returns-then-y-x : goal.returns-then-y-x
unfolding min_of
returns-then-y-x c = simp (nan_if _ _ c.if-x.false, c.if-y-x.true)

pub returns-else-y-x : goal.returns-else-y-x
unfolding min_of
returns-else-y-x c = simp (nan_if _ _ c.if-x.false, c.if-y-x.false)
