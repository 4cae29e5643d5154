-- What the loop of `fields::piece` keeps true: piece k is piece k - j from the place where piece j begins. Assumes nothing.
use Prim.Native.Nat.{◌-◌, ◌≤◌}
use mathlib.Core.Path.{◌≡◌}
use lib.ListN.{length, drop}
use Rattle.fields.specs.Split.{piece}
use Rattle.fields.proofs.piece.Given as goal

abbrev pub invariant-loop : goal.invariant-loop
invariant-loop l = (l.at ≤ length l.s) × (piece l.d l.s l.k ≡ piece l.d (drop l.at l.s) (l.k - l.counter))
