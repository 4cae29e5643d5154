-- `ledger::join` meets its contract. Assumes nothing.
use native.Mathlib.Omega.{arith}
use Rattle.ledger.specs.Ledger.{added}
use Rattle.ledger.proofs.Amounts.{beyond_no}
use Rattle.ledger.proofs.join.Goals as goal

pub overflow_add-result : goal.overflow_add-result
overflow_add-result c = omega (arith, beyond_no c.args.p c.args.h c.requires)

pub returns : goal.returns
unfolding added
returns c = rw (c.jobs_after.ensures, c.min.ensures, c.max.ensures)
