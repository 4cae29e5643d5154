-- What the loops of `writing::places` keep true, and what falls. Assumes nothing.
use Rattle.writing.proofs.Digits.{Counting}
use Rattle.writing.proofs.places.Given as goal

abbrev pub invariant-loop-left : goal.invariant-loop-left
invariant-loop-left l = Counting l.n l.k l.left

abbrev pub decreases-loop-left : goal.decreases-loop-left
decreases-loop-left l = l.left
