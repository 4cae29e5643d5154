-- What the loops of `sharing::deal` keep true. Assumes nothing.
use Rattle.std.proofs.Common.{◌≡◌}
use Rattle.sharing.specs.Allot.{deal_to}
use Rattle.sharing.proofs.deal.Given as goal

abbrev pub invariant-loop-i : goal.invariant-loop-i
invariant-loop-i l = l.weights ≡ deal_to l.i l.members l.parts l.weight l.initial.weights
