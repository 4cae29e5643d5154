-- `triangle::shifts` meets its contract. The invariant: the shifts of the rows below r are set. Assumes nothing.
use borrow.Author.Rules.{rules}
use mathlib.Core.Path.{sym, ap, ◌∙◌}
use native.Mathlib.Omega.{arith}
use Rattle.lent.proofs.Range.{range_none, range_more}
use Rattle.triangle.specs.Triangle.{shift_at, shifted}
use Rattle.triangle.proofs.Within.{row_enough}
use Rattle.triangle.proofs.shifts.Goals as goal

pub loop-r-init : goal.loop-r-init
loop-r-init c = sym (range_none _ _ _ _ (search rules))

pub overflow_sub-out : goal.overflow_sub-out
overflow_sub-out c = row_enough _ _ _ _ c.row_start.ensures (omega arith)

pub loop-r-preserved : goal.loop-r-preserved
unfolding shifted shift_at
loop-r-preserved c =
    let f = shifted c.args.form c.args.n in
    rw c.row_start.ensures (ap (f c.loop-r.r) c.loop-r.invariant) ∙ sym (range_more f 0 c.loop-r.r c.args.out.now (search rules))
