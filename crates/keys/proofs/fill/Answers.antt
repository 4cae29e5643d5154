-- `keys::fill` meets its contract. Assumes nothing.
use mathlib.Core.Path.{refl, sym, ◌∙◌}
use native.Mathlib.Omega.{arith}
use Rattle.lent.proofs.Laws.{over_all_lem, length_tab}
use Rattle.lent.proofs.Fill.{tab_start, tab_step, tab_end}
use Rattle.keys.proofs.fill.Goals as goal

pub loop-i-init : goal.loop-i-init
loop-i-init c = tab_start _ _

pub loop-i-preserved : goal.loop-i-preserved
loop-i-preserved c = tab_step _ _ _ _ _ _ refl c.loop-i.invariant c.byte_of.ensures (omega (arith, c.requires))

pub returns : goal.returns
returns c = tab_end _ _ _ _ 16 c.loop-i.invariant (omega arith) (omega arith) ∙ over_all_lem _ _ (length_tab 16 _ ∙ sym c.requires)
