-- What the loop of `recorded::Told::put_bytes` keeps true. Assumes nothing.
use Rattle.recorded.specs.Told.{Continues}
use Rattle.recorded.proofs.Told.put_bytes.Given as goal

abbrev pub invariant-loop-byte : goal.invariant-loop-byte
invariant-loop-byte l = Continues l.fn.self l.self
