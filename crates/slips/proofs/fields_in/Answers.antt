-- `slips::fields_in` meets its contract. Assumes nothing.
use native.Mathlib.Omega.{arith}
use Rattle.slips.proofs.Lines.{few_tabs, fields_by_tabs}
use Rattle.slips.proofs.fields_in.Goals as goal

pub overflow_add-result : goal.overflow_add-result
overflow_add-result c = omega (arith, few_tabs _ _ c.count.ensures, c.well_formed)

pub returns : goal.returns
returns c = fields_by_tabs _ _ c.count.ensures
