-- What the loop of `ledger::place_of` keeps true. Assumes nothing.
use mathlib.Core.Path.{◌≡◌}
use Prim.Native.Nat.{◌+◌}
use lib.ListN.{take, drop}
use Rattle.ledger.specs.Ledger.{positions}
use Rattle.ledger.specs.Inner.{key_place}
use Rattle.ledger.proofs.place_of.Given as goal

abbrev pub invariant-loop-i : goal.invariant-loop-i
invariant-loop-i l = key_place (take l.n (positions l.table)) l.name ≡ l.i + key_place (drop l.i (take l.n (positions l.table))) l.name
