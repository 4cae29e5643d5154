-- `ledger::insert` meets its contract. Assumes nothing.
use Prim.Native.Nat.{◌<◌}
use native.Mathlib.Omega.{arith}
use mathlib.Core.Path.{refl, sym, ◌∙◌}
use lib.ListN.{length}
use Rattle.ledger.specs.Ledger.{positions}
use Rattle.ledger.proofs.Storing.{length_positions, position_there}
use Rattle.ledger.proofs.Entering.{turn_held, turn_rest, turn_done}
use Rattle.ledger.proofs.insert.Goals as goal

pub loop-i-init : goal.loop-i-init
loop-i-init c = (c.requires.0, refl, refl)

pub loop-i-preserved : goal.loop-i-preserved
loop-i-preserved c =
    let g : c.loop-i.i < length (positions c.loop-i.table) = omega (arith, length_positions c.loop-i.table) in (
      c.put_position.auto.table ∙ c.loop-i.invariant.0,
      turn_held (positions c.loop-i.table) (positions c.put_position.new.table) (positions c.args.table.now) c.loop-i.i c.args.at c.loop-i.hold c.args.p c.put_position.ensures c.position_at-next.result c.loop-i.hold g (position_there c.loop-i.table c.loop-i.i c.loop-i.hold (omega arith) ∙ sym c.position_at-next.ensures) c.loop-i.invariant.1,
      turn_rest (positions c.loop-i.table) (positions c.put_position.new.table) (positions c.args.table.now) c.loop-i.i c.args.at c.loop-i.hold c.args.p c.put_position.ensures c.loop-i.invariant.2,
    )

pub shape_of-table : goal.shape_of-table
shape_of-table c = c.put_position-2.auto.table ∙ c.loop-i.invariant.0 ∙ sym c.requires.0

pub returns : goal.returns
returns c =
    turn_done (positions c.loop-i.table) (positions c.put_position-2.new.table) (positions c.args.table.now) c.args.n c.args.at c.loop-i.hold c.args.p c.put_position-2.ensures c.loop-i.i (omega arith) c.loop-i-test.false (omega arith) (omega (arith, length_positions c.loop-i.table)) (length_positions c.args.table.now ∙ sym (length_positions c.loop-i.table)) c.loop-i.invariant.1 c.loop-i.invariant.2
