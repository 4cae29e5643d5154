-- `ledger::put_in` meets its contract. Assumes nothing.
use mathlib.Core.Path.{refl}
use Rattle.keys.specs.Keys.{key_same}
use Rattle.ledger.specs.Ledger.{position_at, positions}
use Rattle.ledger.proofs.Entering.{step_there, step_new, there_yes, there_no}
use Rattle.ledger.proofs.put_in.Goals as goal

-- each clause, from a proof of all
clauses : {A B : Type 0} → A × B → record { value : A; table_after : B }
clauses p = record { value = p.0; table_after = p.1 }

pub update-requires : goal.update-requires
update-requires c = (c.requires.0, (there_yes _ _ _ _ c.is_there.ensures c.if-is_there.true).0, c.requires.1)

pub shape_of-table-then-is_there : goal.shape_of-table-then-is_there
shape_of-table-then-is_there c = c.update.auto.table

pub returns-then-is_there : goal.returns-then-is_there
returns-then-is_there c = let y = there_yes c.place_of-at.result c.args.names (key_same (position_at c.args.table.now c.place_of-at.result).name c.args.h.name) c.is_there.result c.is_there.ensures c.if-is_there.true in clauses (step_there c.args.table.now c.args.names c.args.h c.requires.1 c.place_of-at.result c.place_of-at.ensures.value c.update.result (positions c.update.new.table) (position_at c.args.table.now c.place_of-at.result) refl y.0 y.1 c.update.ensures.value c.update.ensures.table_after)

pub add-requires : goal.add-requires
add-requires c = (c.requires.0, c.place_of-at.ensures.upper_bound, c.requires.1)

pub shape_of-table : goal.shape_of-table
shape_of-table c = c.add.auto.table

pub returns : goal.returns
returns c = let y = there_no c.place_of-at.result c.args.names (key_same (position_at c.args.table.now c.place_of-at.result).name c.args.h.name) c.is_there.result c.is_there.ensures c.if-is_there.false in clauses (step_new c.args.table.now c.args.names c.args.h c.requires.1 c.place_of-at.result c.place_of-at.ensures.value c.add.result (positions c.add.new.table) y c.add.ensures.value c.add.ensures.table_after)
