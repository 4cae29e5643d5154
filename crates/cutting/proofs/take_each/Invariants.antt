-- What the loop of `cutting::take_each` keeps true. Assumes nothing.
use Rattle.cutting.proofs.Steps.{Way}
use Rattle.cutting.proofs.take_each.Given as goal

abbrev pub invariant-loop-b : goal.invariant-loop-b
invariant-loop-b l = Way l.piece l.initial.at l.initial.table l.initial.held l.b-index l.at l.table l.held
