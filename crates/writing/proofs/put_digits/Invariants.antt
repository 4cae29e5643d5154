-- What the loop of `writing::put_digits` keeps true. Assumes nothing.
use Rattle.writing.proofs.Digits.{Putting}
use Rattle.writing.proofs.put_digits.Given as goal

abbrev pub invariant-loop-i : goal.invariant-loop-i
invariant-loop-i l = Putting l.base l.k l.n l.at l.initial.out l.left l.i l.out
