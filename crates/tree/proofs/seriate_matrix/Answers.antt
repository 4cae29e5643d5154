-- `tree::seriate_matrix` meets its contract. Assumes nothing.
use mathlib.Core.Path.{sym, ◌∙◌}
use Rattle.tree.proofs.Answer.{seriable}
use Rattle.tree.proofs.seriate_matrix.Goals as goal

pub seriate_rows-requires-clause-seriable : goal.seriate_rows-requires-clause-seriable
seriate_rows-requires-clause-seriable c = seriable _ _ _ _ _ (sym c.judge_seriation-said.ensures ∙ c.in_ok-said.was)
