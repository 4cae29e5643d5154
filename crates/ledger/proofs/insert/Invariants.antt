-- What the loop of `ledger::insert` keeps true. Assumes nothing.
use mathlib.Core.Path.{◌≡◌}
use lib.ListN.{length, drop}
use Rattle.ledger.specs.Ledger.{positions}
use Rattle.ledger.specs.Inner.{insert_at}
use Rattle.ledger.proofs.insert.Given as goal

abbrev pub invariant-loop-i : goal.invariant-loop-i
invariant-loop-i l = (length l.table ≡ 1792) × (insert_at l.i l.hold (positions l.table) ≡ insert_at l.at l.initial.hold (positions l.initial.table)) × (drop l.i (positions l.table) ≡ drop l.i (positions l.initial.table))
