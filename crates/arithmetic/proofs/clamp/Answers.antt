-- `arithmetic::clamp` meets its contract. Assumes nothing.
use Rattle.std.proofs.Common.{◌≡◌, true, ◌∙◌}
use lib.Ieee.{lt}
use Rattle.arithmetic.specs.Arithmetic.{clamp_of}
use Rattle.arithmetic.proofs.clamp.Goals as goal

pub returns-then-x-low : goal.returns-then-x-low
unfolding clamp_of
returns-then-x-low c = let e : lt c.args.x c.args.low ≡ true = c.if-x-low.true in rw e

pub returns-then-high-x : goal.returns-then-high-x
unfolding clamp_of
returns-then-high-x c = rw (c.if-x-low.false, c.if-high-x.true)

pub returns-else-high-x : goal.returns-else-high-x
unfolding clamp_of
returns-else-high-x c = c.settled.ensures ∙ rw (c.if-x-low.false, c.if-high-x.false)
