-- `tree::quasi_diagonalization` meets its contract. Assumes nothing.
use mathlib.Core.Path.{sym, ◌∙◌}
use Rattle.tree.proofs.Answer.{order_ready}
use Rattle.tree.proofs.quasi_diagonalization.Goals as goal

pub leaves-columns-requires : goal.leaves-columns-requires
leaves-columns-requires c =
    order_ready _ _ _ _ _ (sym c.judge_order-said.ensures ∙ c.in_ok-said.was) c.clear.ensures
