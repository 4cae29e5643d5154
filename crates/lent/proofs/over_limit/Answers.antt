-- `lent::over_limit` meets its contract. Assumes nothing.
use mathlib.Core.Path.{sym}
use native.Mathlib.Omega.{arith}
use Rattle.lent.proofs.Sizes.{over_tall, over_wide, over_cells, cells_fit}
use Rattle.lent.proofs.over_limit.Goals as goal

pub returns-then-rows-gt-MOST_ROWS : goal.returns-then-rows-gt-MOST_ROWS
returns-then-rows-gt-MOST_ROWS c = sym (over_tall _ _ c.if-rows-gt-MOST_ROWS.true)

pub returns-then-columns-gt-MOST_COLUMNS : goal.returns-then-columns-gt-MOST_COLUMNS
returns-then-columns-gt-MOST_COLUMNS c = sym (over_wide _ _ c.if-rows-gt-MOST_ROWS.false c.if-columns-gt-MOST_COLUMNS.true)

pub overflow_mul-result : goal.overflow_mul-result
overflow_mul-result c = omega (arith, cells_fit c.args.rows c.args.columns c.if-rows-gt-MOST_ROWS.false c.if-columns-gt-MOST_COLUMNS.false)

pub returns : goal.returns
returns c = sym (over_cells _ _ c.if-rows-gt-MOST_ROWS.false c.if-columns-gt-MOST_COLUMNS.false)
