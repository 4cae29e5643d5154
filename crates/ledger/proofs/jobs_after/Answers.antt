-- `ledger::jobs_after` meets its contract. Assumes nothing.
use native.Mathlib.Omega.{arith}
use borrow.Author.Tests.{eq-eqb, ne_eqb}
use Rattle.ledger.specs.Ledger.{jobs_after}
use Rattle.ledger.proofs.Amounts.{beyond_no}
use Rattle.ledger.proofs.jobs_after.Goals as goal

pub returns-then-p-h : goal.returns-then-p-h
unfolding jobs_after
returns-then-p-h c = rw (eq-eqb _ _ c.if-p-h.true)

pub overflow_add-result : goal.overflow_add-result
overflow_add-result c = omega (arith, beyond_no c.args.p c.args.h c.requires)

pub returns : goal.returns
unfolding jobs_after
returns c = rw (ne_eqb _ _ c.if-p-h.false)
