-- What the loop of `fields::spelled` keeps true: the digits from place i on, after those so far, which are worth m, spell the same and have room. Assumes nothing.
use Prim.Native.Nat.{◌+◌, ◌-◌, ◌*◌, ◌^◌, ◌≤◌}
use mathlib.Core.Path.{◌≡◌}
use lib.ListN.{length, drop}
use Rattle.fields.specs.Inner.{spelled_after}
use Rattle.fields.proofs.spelled.Given as goal

abbrev pub invariant-loop-b : goal.invariant-loop-b
invariant-loop-b l = ((l.m + 1) * l.base ^ (length l.w - l.b-index) ≤ 2 ^ 64) × (spelled_after l.base l.n l.w ≡ spelled_after l.base l.m (drop l.b-index l.w))
