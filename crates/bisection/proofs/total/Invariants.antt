-- What the loops of `bisection::total` keep true. Assumes nothing.
use Rattle.std.proofs.Common.{◌≡◌, get_or}
use lib.Ieee.{nan}
use Rattle.lent.specs.Grid.{sum_to}
use Rattle.bisection.proofs.total.Given as goal

abbrev pub invariant-loop-w : goal.invariant-loop-w
invariant-loop-w l = l.s ≡ sum_to l.w-index (λ j. get_or l.ws j nan)
