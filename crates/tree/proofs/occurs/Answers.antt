-- `tree::occurs` meets its contract. What is counted, and what is left of the list, make the count. Assumes nothing.
use native.Mathlib.Omega.{arith}
use Rattle.tree.proofs.Rows.{count_hit, count_miss, count_end}
use Rattle.tree.proofs.occurs.Goals.{then-y-x, else-y-x}
use Rattle.tree.proofs.occurs.Goals as goal

pub loop-y-preserved : goal.loop-y-preserved
loop-y-preserved c =
    elim c.if-y-x.branch [
      | then-y-x w ↦ (omega arith, omega (arith, count_hit c.args.x c.args.list.now c.loop-y.y-index (omega arith) w.if-y-x.true))
      | else-y-x w ↦ (omega arith, omega (arith, count_miss c.args.x c.args.list.now c.loop-y.y-index (omega arith) w.if-y-x.false))
    ]

pub returns : goal.returns
returns c =
    omega (arith, count_end c.args.x c.args.list.now c.loop-y.y-index (omega arith))
