-- `ordering::sort` meets its contract. Assumes nothing.
use Rattle.ordering.proofs.Parts.{sort_done, sort_refused, value_and_list}
use Rattle.ordering.proofs.sort.Goals as goal

pub shape_of-xs-then-xs-gt-MOST_ENTRIES : goal.shape_of-xs-then-xs-gt-MOST_ENTRIES
shape_of-xs-then-xs-gt-MOST_ENTRIES c = c.clear.auto.out

pub returns-then-xs-gt-MOST_ENTRIES : goal.returns-then-xs-gt-MOST_ENTRIES
returns-then-xs-gt-MOST_ENTRIES c = value_and_list (sort_refused _ _ c.if-xs-gt-MOST_ENTRIES.true c.clear.ensures)

pub shape_of-xs : goal.shape_of-xs
shape_of-xs c = c.put_in_order.auto.xs

pub returns : goal.returns
returns c = value_and_list (sort_done _ _ c.if-xs-gt-MOST_ENTRIES.false c.put_in_order.ensures)
