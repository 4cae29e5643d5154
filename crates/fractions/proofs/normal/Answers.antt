-- `fractions::normal` meets its contract: each turn keeps the value. Assumes nothing.
use Prim.Native.Nat.{◌^◌, ◌≤◌, ◌<◌}
use mathlib.Core.Path.{◌∙◌}
use native.Mathlib.Omega.{arith}
use Rattle.fractions.proofs.Shifts.{doubled, packed}
use Rattle.fractions.proofs.normal.Goals.{else-loop-place-test, then-loop-place-test+else-high-lt1099511627776}
use Rattle.fractions.proofs.normal.Goals as goal

pub loop-place-preserved : goal.loop-place-preserved
loop-place-preserved c =
    (omega arith, omega arith, omega arith, doubled c.loop-place.high c.loop-place.low c.loop-place.place c.loop-place-test.true c.loop-place.invariant.1 ∙ c.loop-place.invariant.3)

pub returns : goal.returns
returns c =
    let full : 0 < c.loop-place.place → 2 ^ 40 ≤ c.loop-place.high =
    elim c.loop-place-test.branch [
      | else-loop-place-test w ↦ λ h. absurd (omega arith)
      | then-loop-place-test+else-high-lt1099511627776 w ↦ λ h. w.if-high-lt1099511627776.false
    ] in
    packed c.loop-place.high c.loop-place.low c.loop-place.place _ c.loop-place.invariant.0 c.loop-place.invariant.1 full c.loop-place.invariant.3
