-- `tree::each_found_once` meets its contract. Assumes nothing.
use mathlib.Core.Path.{sym, ◌∙◌}
use native.Mathlib.Omega.{arith}
use Rattle.tree.proofs.Rows.{once_good, once_bad, once_end}
use Rattle.tree.proofs.each_found_once.Goals as goal

pub returns-then-occurs-ne1 : goal.returns-then-occurs-ne1
returns-then-occurs-ne1 c =
    sym (c.loop-k.invariant ∙ once_bad c.args.list.now c.loop-k.k (omega arith) (λ e. omega arith))

pub loop-k-preserved : goal.loop-k-preserved
loop-k-preserved c =
    c.loop-k.invariant ∙ once_good c.args.list.now c.loop-k.k (omega arith) (omega arith)

pub returns : goal.returns
returns c =
    sym (c.loop-k.invariant ∙ once_end c.args.list.now c.loop-k.k (omega arith))
