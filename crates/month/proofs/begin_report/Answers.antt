-- `month::begin_report` meets its contract. Assumes nothing.
use mathlib.Core.Path.{refl}
use Rattle.month.specs.Month.{opening}
use Rattle.month.specs.Calls.{tally_of}
use Rattle.month.proofs.begin_report.Goals as goal

pub shape_of-table : goal.shape_of-table
shape_of-table c = c.clear.auto.out

pub returns : goal.returns
unfolding tally_of opening
returns c = record { answer = refl; table_is = c.clear.ensures }
