-- `resample::kept_row` meets its contract. Assumes nothing.
use mathlib.Core.Path.{sym, ◌∙◌}
use native.Mathlib.Omega.{arith}
use Rattle.resample.proofs.Laws.{kept_le, row_same, row_block, block_in}
use Rattle.resample.proofs.kept_row.Goals as goal

pub returns-then-keeps_all : goal.returns-then-keeps_all
returns-then-keeps_all c = row_same _ _ _ (sym c.keeps_all.ensures ∙ c.if-keeps_all.true)

pub overflow_add-result : goal.overflow_add-result
overflow_add-result c = omega (arith, kept_le c.args.rows c.args.step)

pub overflow_mul-result : goal.overflow_mul-result
overflow_mul-result c = let b = block_in _ _ _ (sym c.keeps_all.ensures ∙ c.if-keeps_all.false) c.requires.r_bound in omega arith

pub overflow_sub-result : goal.overflow_sub-result
overflow_sub-result c = let b = block_in _ _ _ (sym c.keeps_all.ensures ∙ c.if-keeps_all.false) c.requires.r_bound in omega arith

pub returns : goal.returns
returns c = row_block _ _ _ (sym c.keeps_all.ensures ∙ c.if-keeps_all.false)
