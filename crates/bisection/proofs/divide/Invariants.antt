-- What the loops of `bisection::divide` keep true. Assumes nothing.
use Rattle.std.proofs.Common.{◌≡◌, get_or}
use lib.Ieee.{nan, binary64, div}
use Rattle.lent.specs.Grid.{tab, over}
use Rattle.bisection.proofs.divide.Given as goal

abbrev pub invariant-loop-w : goal.invariant-loop-w
invariant-loop-w l = l.ws ≡ over (tab l.w-index (λ j. div binary64 (get_or l.initial.ws j nan) l.s)) l.initial.ws
