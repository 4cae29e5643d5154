-- What the loop of `keys::shift` keeps true. Assumes nothing.
use mathlib.Core.Path.{◌≡◌}
use Rattle.keys.specs.Keys.{shortened}
use Rattle.keys.proofs.shift.Given as goal

abbrev pub invariant-loop : goal.invariant-loop
invariant-loop l = l.left ≡ shortened l.counter l.w
