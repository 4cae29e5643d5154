-- What the loops of `sharing::spread` keep true. Assumes nothing.
use Rattle.std.proofs.Common.{◌≡◌, drop}
use Rattle.sharing.specs.Allot.{spread_of}
use Rattle.sharing.proofs.spread.Given as goal

abbrev pub invariant-loop-a : goal.invariant-loop-a
invariant-loop-a l = spread_of l.members l.w l.initial.weights ≡ spread_of (drop l.a-index l.members) l.w l.weights
