-- `month::take_line` meets its contract. Assumes nothing.
use mathlib.Core.Path.{◌∙◌}
use Rattle.month.proofs.Steps.{took_line}
use Rattle.month.proofs.take_line.Goals as goal

pub shape_of-table : goal.shape_of-table
shape_of-table c = c.clear_past.auto.table ∙ c.take_next-said.auto.table

pub returns : goal.returns
returns c = took_line c.args.table.now c.args.line.now c.args.progress c.take_next-said.result c.take_next-said.new.table _ c.names_held.result c.take_next-said.ensures c.names_held.ensures c.clear_past.ensures
