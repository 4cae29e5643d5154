-- `reading::days_from` meets its contract. Assumes nothing.
use native.Mathlib.Omega.{arith}
use Rattle.reading.proofs.Blocks.{days_here, days_after, days_short}
use Rattle.reading.proofs.days_from.Goals as goal

pub returns-then-more-eq0 : goal.returns-then-more-eq0
returns-then-more-eq0 c = days_here c.requires c.if-more-eq0.true

pub overflow_add-result : goal.overflow_add-result
overflow_add-result c = omega (arith, days_short c.requires _ c.end_of.ensures)

pub returns : goal.returns
returns c = days_after c.requires _ c.end_of.ensures c.if-more-eq0.false
