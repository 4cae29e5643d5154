-- What the loop of `decimals::digits` keeps true: the digits from place i on, after those so far, which are worth m, spell the same and have room. Assumes nothing.
use Prim.Native.Nat.{◌+◌, ◌-◌, ◌*◌, ◌^◌, ◌≤◌}
use mathlib.Core.Path.{◌≡◌}
use lib.ListN.{length, drop}
use Rattle.fields.specs.Inner.{spelled_after}
use Rattle.decimals.proofs.digits.Given as goal

abbrev pub invariant-loop-b : goal.invariant-loop-b
invariant-loop-b l = ((l.m + 1) * 10 ^ (length l.w - l.b-index) ≤ 2 ^ 64) × (spelled_after 10 l.n l.w ≡ spelled_after 10 l.m (drop l.b-index l.w))
