-- `slips::all_names` meets its contract. What begins at a place or later decides. Assumes nothing.
use mathlib.Core.Path.{sym, ◌∙◌}
use native.Mathlib.Omega.{arith}
use Rattle.fields.proofs.Pieces.{end_le}
use Rattle.slips.proofs.Lines.{names_first, names_on, names_no, names_end, field_in}
use Rattle.slips.proofs.all_names.Goals as goal

pub overflow_add-at : goal.overflow_add-at
overflow_add-at c =
    omega (arith, end_le 9 c.args.line.now 0 (omega arith), c.end_of-at.ensures, c.well_formed)

pub loop-at-init : goal.loop-at-init
loop-at-init c = (omega (arith, end_le 9 c.args.line.now 0 (omega arith), c.end_of-at.ensures), names_first _ _ c.end_of-at.ensures)

pub slice_bounds-is_name-count : goal.slice_bounds-is_name-count
slice_bounds-is_name-count c = omega (arith, field_in _ _ _ c.loop-at-test.true c.end_of-e.ensures)

pub slice_bounds-is_name-start : goal.slice_bounds-is_name-start
slice_bounds-is_name-start c = omega (arith, field_in _ _ _ c.loop-at-test.true c.end_of-e.ensures)

pub slice_bounds-is_name-end : goal.slice_bounds-is_name-end
slice_bounds-is_name-end c = omega (arith, field_in _ _ _ c.loop-at-test.true c.end_of-e.ensures)

pub returns-then-not-is_name : goal.returns-then-not-is_name
returns-then-not-is_name c =
    sym (c.loop-at.invariant.1 ∙ names_no _ _ _ c.loop-at-test.true c.end_of-e.ensures (sym c.is_name.ensures ∙ c.if-not-is_name.true))

pub overflow_add-at-in-loop-at : goal.overflow_add-at-in-loop-at
overflow_add-at-in-loop-at c =
    omega (arith, field_in _ _ _ c.loop-at-test.true c.end_of-e.ensures, c.well_formed)

pub loop-at-smaller : goal.loop-at-smaller
loop-at-smaller c =
    omega (arith, field_in _ _ _ c.loop-at-test.true c.end_of-e.ensures)

pub loop-at-preserved : goal.loop-at-preserved
loop-at-preserved c = (
  omega (arith, field_in _ _ _ c.loop-at-test.true c.end_of-e.ensures),
  c.loop-at.invariant.1 ∙ names_on _ _ _ c.loop-at-test.true c.end_of-e.ensures (sym c.is_name.ensures ∙ c.if-not-is_name.false),
)

pub returns : goal.returns
returns c = sym (c.loop-at.invariant.1 ∙ names_end _ _ (omega arith))
