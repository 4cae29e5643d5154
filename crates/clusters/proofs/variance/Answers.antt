-- `clusters::variance` meets its contract. Assumes nothing.
use mathlib.Core.Path.{◌∙◌}
use Rattle.clusters.proofs.Laws.{same_variance}
use Rattle.clusters.proofs.variance.Goals as goal

pub returns : goal.returns
returns c = c.settled.ensures ∙ c.weighted_variance.ensures ∙ same_variance _ _ _ _ _ c.fill.ensures
