-- `printing::write_front` meets its contract. Assumes nothing.
use mathlib.Core.Path.{sym, ◌∙◌}
use native.Mathlib.Omega.{arith}
use lib.Seq.{length-take-le}
use Rattle.printing.proofs.write_front.Goals as goal

pub returns-then-out-k : goal.returns-then-out-k
returns-then-out-k c = λ e. absurd (omega (arith, e, c.if-out-k.true))

pub slice_bounds-write-end : goal.slice_bounds-write-end
slice_bounds-write-end c = sym (length-take-le _ _ (omega (arith, c.if-out-k.false)))

pub returns : goal.returns
returns c = λ e. c.write-2.ensures (length-take-le _ _ (omega (arith, c.if-out-k.false)) ∙ e)
