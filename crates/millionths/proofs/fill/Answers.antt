-- `millionths::fill` meets its contract. Assumes nothing.
use Prim.Native.Nat.{ℕ, ◌+◌}
use mathlib.Core.Path.{refl, ap, ◌∙◌}
use native.Mathlib.Omega.{arith}
use lib.Dec.{ltb}
use lib.ListN.{get_or, length-set}
use Rattle.lent.proofs.Counting.{one_le}
use Rattle.lent.proofs.Fill.{tab_start, tab_step}
use Rattle.fractions.proofs.Ranks.{cast_one}
use Rattle.millionths.proofs.fill.Goals as goal

pub loop-i-init : goal.loop-i-init
loop-i-init c = (refl, tab_start _ _)

pub overflow_add-out : goal.overflow_add-out
overflow_add-out c =
    let w = c.requires.wholes_are.small c.loop-i.i (omega (arith, c.requires.wholes_wide)) in
    let t = ltb (get_or c.args.ranks.now c.loop-i.i 0) c.args.missing in
    omega (arith, w, c.from.ensures, cast_one t, one_le t)

pub loop-i-preserved : goal.loop-i-preserved
loop-i-preserved c =
    (simp length-set c.loop-i.invariant.0, tab_step _ _ _ _ _ _ refl c.loop-i.invariant.1 (ap (λ (x : ℕ). get_or c.args.wholes.now c.loop-i.i 0 + x) (c.from.ensures ∙ cast_one _)) (omega (arith, c.requires.roomy)))
