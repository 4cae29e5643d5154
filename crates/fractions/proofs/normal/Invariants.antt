-- What the loop of `fractions::normal` keeps true, and what falls. Assumes nothing.
use Prim.Native.Nat.{◌+◌, ◌*◌, ◌^◌, ◌≤◌, ◌<◌}
use mathlib.Core.Path.{◌≡◌}
use Rattle.fractions.proofs.normal.Given as goal

abbrev pub invariant-loop-place : goal.invariant-loop-place
invariant-loop-place l = (l.high < 2 ^ 41) × (l.low < 2 ^ 32) × (l.place ≤ 1022) × ((l.high * 2 ^ 32 + l.low) * 2 ^ l.place ≡ (l.high0 * 2 ^ 32 + l.low0) * 2 ^ l.place0)

abbrev pub decreases-loop-place : goal.decreases-loop-place
decreases-loop-place l = l.place
