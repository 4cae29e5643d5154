-- `resample::freq_step` meets its contract. Assumes nothing.
use mathlib.Core.Path.{sym, ◌∙◌}
use Rattle.resample.specs.Resample.{is_weekly, is_monthly}
use Rattle.resample.proofs.Laws.{step_week, step_month, step_other}
use Rattle.resample.proofs.freq_step.Goals as goal

pub returns-then-is_one_of : goal.returns-then-is_one_of
unfolding is_weekly is_monthly
returns-then-is_one_of c = step_week _ (sym c.is_one_of.ensures ∙ c.if-is_one_of.true)

pub returns-then-is_one_of-2 : goal.returns-then-is_one_of-2
unfolding is_weekly is_monthly
returns-then-is_one_of-2 c = step_month _ (sym c.is_one_of.ensures ∙ c.if-is_one_of.false) (sym c.is_one_of-2.ensures ∙ c.if-is_one_of-2.true)

pub returns : goal.returns
unfolding is_weekly is_monthly
returns c = step_other _ (sym c.is_one_of.ensures ∙ c.if-is_one_of.false) (sym c.is_one_of-2.ensures ∙ c.if-is_one_of-2.false)
