-- `fractions::put_ranks` meets its contract. Assumes nothing.
use mathlib.Core.Path.{refl}
use native.Mathlib.Omega.{arith}
use lib.ListN.{length-set}
use Rattle.lent.proofs.Fill.{tab_start, tab_step}
use Rattle.fractions.proofs.put_ranks.Goals as goal

pub loop-i-init : goal.loop-i-init
loop-i-init c = (refl, tab_start _ _)

pub loop-i-preserved : goal.loop-i-preserved
loop-i-preserved c =
    (simp length-set c.loop-i.invariant.0, tab_step _ _ _ _ _ _ refl c.loop-i.invariant.1 c.rank.ensures (omega (arith, c.requires.in_bounds)))
