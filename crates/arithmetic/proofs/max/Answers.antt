-- `arithmetic::max` meets its contract. Assumes nothing.
use Rattle.std.proofs.Common.{◌∙◌}
use Rattle.arithmetic.specs.Arithmetic.{max_of}
use Rattle.arithmetic.proofs.Facts.{nan_if}
use Rattle.arithmetic.proofs.max.Goals as goal

pub returns-then-x : goal.returns-then-x
unfolding max_of
returns-then-x c = c.settled.ensures ∙ rw (nan_if _ _ c.if-x.true)

pub returns-then-x-y : goal.returns-then-x-y
unfolding max_of
returns-then-x-y c = simp (nan_if _ _ c.if-x.false, c.if-x-y.true)

pub returns-else-x-y : goal.returns-else-x-y
unfolding max_of
returns-else-x-y c = simp (nan_if _ _ c.if-x.false, c.if-x-y.false)
