-- What the loop of `tree::each_found_once` keeps true: the numbers below k, and k itself, decide. Assumes nothing.
use Prim.Native.Nat.{◌+◌}
use mathlib.Core.Path.{◌≡◌}
use Rattle.tree.specs.Rows.{once}
use Rattle.tree.proofs.each_found_once.Given as goal

abbrev pub invariant-loop-k : goal.invariant-loop-k
invariant-loop-k l = once l.list l.m ≡ once l.list l.k
