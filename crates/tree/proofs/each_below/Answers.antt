-- `tree::each_below` meets its contract. What is left of the rows decides. Assumes nothing.
use mathlib.Core.Path.{sym, ◌∙◌}
use native.Mathlib.Omega.{arith}
use Rattle.tree.proofs.Rows.{below_good, below_bad, below_end}
use Rattle.tree.proofs.each_below.Goals as goal

pub returns-then-id-n : goal.returns-then-id-n
returns-then-id-n c = sym (c.loop-i.invariant ∙ below_bad c.args.n c.args.rows.now c.loop-i.i (omega arith) (omega arith))

pub loop-i-preserved : goal.loop-i-preserved
loop-i-preserved c = c.loop-i.invariant ∙ below_good c.args.n c.args.rows.now c.loop-i.i (omega arith) (omega arith)

pub returns : goal.returns
returns c = sym (c.loop-i.invariant ∙ below_end c.args.n c.args.rows.now c.loop-i.i (omega arith))
