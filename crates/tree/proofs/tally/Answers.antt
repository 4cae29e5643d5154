-- `tree::tally` meets its contract. What is counted, and what is left of the list, make the count. Assumes nothing.
use mathlib.Core.Path.{refl}
use native.Mathlib.Omega.{arith}
use lib.ListN.{get_or}
use Rattle.tree.proofs.Counted.{tally_start, tally_hit, tally_miss, tally_end}
use Rattle.tree.proofs.tally.Goals.{then-x-lt128, else-x-lt128}
use Rattle.tree.proofs.tally.Goals as goal

pub loop-x-init : goal.loop-x-init
loop-x-init c = tally_start c.args.list.now

pub loop-x-preserved : goal.loop-x-preserved
loop-x-preserved c =
    let x = get_or c.args.list.now c.loop-x.x-index 0 in
    elim c.if-x-lt128.branch [
      | then-x-lt128 w ↦ rw w.t-is (tally_hit c.args.list.now c.loop-x.t c.loop-x.x-index x c.loop-x.invariant (omega arith) refl (omega (arith, w.if-x-lt128.true)))
      | else-x-lt128 w ↦ rw w.t-is (tally_miss c.args.list.now c.loop-x.t c.loop-x.x-index c.loop-x.invariant (omega arith) (omega (arith, w.if-x-lt128.false)))
    ]

pub returns : goal.returns
returns c = tally_end c.args.list.now c.loop-x.t c.loop-x.x-index c.loop-x.invariant (omega arith)
