-- What the loop of `recorded::Told::put_list` keeps true. Assumes nothing.
use Rattle.recorded.specs.Told.{Continues}
use Rattle.recorded.proofs.Told.put_list.Given as goal

abbrev pub invariant-loop-x : goal.invariant-loop-x
invariant-loop-x g l = Continues l.fn.self l.self
