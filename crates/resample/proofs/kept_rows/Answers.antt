-- `resample::kept_rows` meets its contract. Assumes nothing.
use mathlib.Core.Path.{sym, ◌∙◌}
use native.Mathlib.Omega.{arith}
use Rattle.resample.proofs.Laws.{in_blocks, rows_same, rows_blocks}
use Rattle.resample.proofs.kept_rows.Goals as goal

pub returns-then-keeps_all : goal.returns-then-keeps_all
returns-then-keeps_all c = rows_same _ _ (sym c.keeps_all.ensures ∙ c.if-keeps_all.true)

pub nonzero_div-result : goal.nonzero_div-result
nonzero_div-result c = let b = in_blocks _ _ (sym c.keeps_all.ensures ∙ c.if-keeps_all.false) in omega arith

pub returns : goal.returns
returns c = rows_blocks _ _ (sym c.keeps_all.ensures ∙ c.if-keeps_all.false)
