-- What the loop of `reading::read_last` keeps true. Assumes nothing.
use Rattle.reading.proofs.Ceilings.{Lasting}
use Rattle.reading.proofs.read_last.Given as goal

abbrev pub invariant-loop-i : goal.invariant-loop-i
invariant-loop-i l = Lasting l.d l.s l.n l.initial.ceilings l.i l.at l.ceilings
