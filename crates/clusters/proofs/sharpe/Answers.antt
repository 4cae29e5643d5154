-- `clusters::sharpe` meets its contract. Assumes nothing.
use mathlib.Core.Path.{◌∙◌}
use Rattle.clusters.proofs.Laws.{same_ratio}
use Rattle.clusters.proofs.sharpe.Goals as goal

pub returns : goal.returns
returns c =
    c.settled.ensures ∙ same_ratio _ _ _ _ _ c.fill.ensures c.args.expected.now _ _ _ c.expected_of-mu.ensures c.weighted_variance-v.ensures c.over_root.ensures
