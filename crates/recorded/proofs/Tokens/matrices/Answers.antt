-- `recorded::Tokens::matrices` meets its contract. Assumes nothing.
use Rattle.std.proofs.Common.{rules, ◌∙◌}
use Rattle.recorded.proofs.Laws.{matrices_place_lem}
use Rattle.recorded.proofs.Tokens.matrices.Goals as goal

pub returns-clause-at_after : goal.returns-clause-at_after
returns-clause-at_after c =
    let s = c.matrix-prices.ensures.same_text in
    let t = c.matrix-returns.ensures.same_text ∙ s in
    matrices_place_lem _ _ _ _ _ _ _ _ (search rules) (search rules) c.matrix-prices.ensures.at_after (rw s at c.matrix-returns.ensures.at_after) (rw t at c.matrix-covariance.ensures.at_after)
