-- `ceilings::cap` meets its contract: an entry is read before it is written, so that each turn has the old figure. Assumes nothing.
use mathlib.Core.Path.{refl, ◌∙◌}
use native.Mathlib.Omega.{arith}
use lib.ListN.{length, length-set}
use Rattle.lent.specs.Grid.{tab}
use Rattle.lent.proofs.Laws.{over_all_lem, length_tab}
use Rattle.lent.proofs.Fill.{tab_start, tab_step, tab_end}
use Rattle.ceilings.specs.Ceilings.{gap_at, cut_total, capped_at, capped_in}
use Rattle.ceilings.proofs.Handed.{left_start, turn_part, turn_left}
use Rattle.ceilings.proofs.cap.Goals as goal

pub loop-i-init : goal.loop-i-init
loop-i-init c =
    (refl, c.cut_total-left.ensures ∙ left_start (gap_at c.args.parts.now c.args.ceilings.now) (cut_total c.args.parts.now c.args.ceilings.now), tab_start _ _)

pub overflow_add-parts : goal.overflow_add-parts
overflow_add-parts c =
    let k = c.type_inv.ceilings c.loop-i.i in
    omega (arith, c.min-more.ensures, c.min-kept.ensures)

pub loop-i-preserved : goal.loop-i-preserved
loop-i-preserved c =
    let t = turn_part c.args.parts.now c.args.ceilings.now c.loop-i.parts c.loop-i.i c.min-kept.result c.min-more.result c.loop-i.left c.loop-i.invariant.2 c.min-kept.ensures c.min-more.ensures c.loop-i.invariant.1 in
    let u = turn_left c.args.parts.now c.args.ceilings.now c.loop-i.parts c.loop-i.i c.min-kept.result c.min-more.result c.loop-i.left c.loop-i.invariant.2 c.min-kept.ensures c.min-more.ensures c.loop-i.invariant.1 in
    (simp length-set c.loop-i.invariant.0, u, tab_step _ _ _ _ _ _ refl c.loop-i.invariant.2 t (omega arith))

pub returns : goal.returns
unfolding capped_in
returns c =
    let f = capped_at c.args.parts.now c.args.ceilings.now in
    tab_end f _ _ _ (length c.args.parts.now) c.loop-i.invariant.2 (omega arith) (omega arith) ∙ over_all_lem (tab (length c.args.parts.now) f) c.args.parts.now (length_tab (length c.args.parts.now) f)
