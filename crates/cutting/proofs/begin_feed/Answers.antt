-- `cutting::begin_feed` meets its contract. Assumes nothing.
use mathlib.Core.Path.{ap}
use Rattle.cutting.proofs.begin_feed.Goals as goal
use Rattle.month.specs.Outcomes.{Progress}

pub shape_of-table : goal.shape_of-table
shape_of-table c = c.begin_report-progress.auto.table

pub shape_of-held : goal.shape_of-held
shape_of-held c = c.clear.auto.out

pub returns : goal.returns
returns c = record { answer = ap (λ (p : Progress). record { progress = p; held = 0 }) c.begin_report-progress.ensures.answer; table_is = c.begin_report-progress.ensures.table_is; held_is = c.clear.ensures }
