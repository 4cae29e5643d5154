-- `linkage::number` meets its contract. The invariant: the ids below k are set. Assumes nothing.
use borrow.Author.Rules.{rules}
use mathlib.Core.Path.{sym, ap, ◌∙◌}
use native.Mathlib.Omega.{arith}
use Rattle.lent.proofs.Range.{range_none, range_more, range_end}
use Rattle.linkage.specs.Inner.{numbered}
use Rattle.linkage.proofs.number.Goals as goal

pub loop-k-init : goal.loop-k-init
loop-k-init c = (search rules, sym (range_none _ _ _ _ (search rules)))

pub loop-k-preserved : goal.loop-k-preserved
unfolding numbered
loop-k-preserved c =
    (omega arith, rw c.leaf-id.ensures (ap (numbered c.loop-k.k) c.loop-k.invariant.1) ∙ sym (range_more numbered 0 c.loop-k.k c.args.ids.now (search rules)))

pub returns : goal.returns
returns c = range_end _ _ _ _ _ _ c.loop-k.invariant.1 c.loop-k.invariant.0 (omega arith)
