-- `keys::shift` meets its contract. Assumes nothing.
use mathlib.Core.Path.{refl}
use native.Mathlib.Omega.{arith}
use Rattle.keys.specs.Keys.{shortened}
use Rattle.keys.proofs.Words.{shift_more, shift_end}
use Rattle.keys.proofs.shift.Goals as goal

pub loop-init : goal.loop-init
unfolding shortened
loop-init c = refl

pub loop-preserved : goal.loop-preserved
loop-preserved c = shift_more _ _ _ c.loop.invariant

pub returns : goal.returns
returns c = shift_end _ _ _ _ c.loop.invariant (omega arith) (omega arith)
