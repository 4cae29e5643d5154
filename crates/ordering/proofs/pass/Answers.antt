-- `ordering::pass` meets its contract. Assumes nothing.
use Rattle.std.proofs.Common.{◌<◌, length, sym, ◌∙◌, arith}
use lib.Seq.{set-get_or}
use lib.Ieee.{nan}
use Rattle.ordering.proofs.Laws.{pass_swap, pass_keep, pass_end}
use Rattle.ordering.proofs.pass.Goals as goal
use Rattle.ordering.proofs.pass.Goals.{then-comes_before, else-comes_before}

-- whichever way the branch went, the earlier is at the index and the later is held
pub loop-y-preserved : goal.loop-y-preserved
loop-y-preserved c =
    let h : c.loop-y.y-index < length c.loop-y.xs = omega arith in
    elim c.if-comes_before.branch [
      | then-comes_before w ↦ (pass_swap c.loop-y.xs c.if-comes_before.xs c.loop-y.hold c.if-comes_before.hold c.loop-y.y-index h (sym w.if-comes_before.true ∙ c.comes_before.ensures) w.xs-is w.hold-is).1 ∙ c.loop-y.invariant
      | else-comes_before w ↦ (pass_keep c.loop-y.xs c.if-comes_before.xs c.loop-y.hold c.if-comes_before.hold c.loop-y.y-index h (sym w.if-comes_before.false ∙ c.comes_before.ensures) (w.xs-is ∙ set-get_or c.loop-y.xs c.loop-y.y-index nan) w.hold-is).1 ∙ c.loop-y.invariant
    ]

pub returns : goal.returns
returns c = sym (pass_end _ _ _ (omega arith)) ∙ c.loop-y.invariant
