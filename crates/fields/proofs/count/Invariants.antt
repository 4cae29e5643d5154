-- What the loop of `fields::count` keeps true. Assumes nothing.
use Prim.Native.Nat.{◌+◌, ◌≤◌}
use mathlib.Core.Path.{◌≡◌}
use lib.ListN.{length, drop}
use Rattle.fields.specs.Split.{split}
use Rattle.fields.proofs.count.Given as goal

abbrev pub invariant-loop-b : goal.invariant-loop-b
invariant-loop-b l = (l.n ≤ l.b-index) × (l.b-index ≤ length l.s) × (l.n + length (split l.d (drop l.b-index l.s)) ≡ length (split l.d l.s))
