-- `stats::fill_with` meets its contract. What is written so far is c entries. Assumes nothing.
use mathlib.Core.Path.{refl, ◌∙◌}
use native.Mathlib.Omega.{arith}
use Rattle.lent.proofs.Fill.{tab_start, tab_step}
use Rattle.stats.proofs.fill_with.Goals as goal

pub loop-c-init : goal.loop-c-init
loop-c-init g c = λ h told. tab_start _ _

pub loop-c-preserved : goal.loop-c-preserved
loop-c-preserved g c = λ h told. tab_step _ _ _ _ _ _ refl (c.loop-c.invariant h told) (c.settled.ensures ∙ told c.loop-c.c c.f.result (omega arith) c.f.ensures) (omega arith)
