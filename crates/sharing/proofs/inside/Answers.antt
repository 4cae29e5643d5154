-- `sharing::inside` meets its contract. Assumes nothing.
use Rattle.std.proofs.Common.{sym, ap, ◌∙◌}
use Rattle.sharing.specs.Allot.{inside_of}
use Rattle.clusters.specs.Shares.{some}
use Rattle.sharing.proofs.Laws.{inside_varied}
use Rattle.sharing.proofs.inside.Goals as goal

pub returns-in-EqualWeighting : goal.returns-in-EqualWeighting
unfolding inside_of
returns-in-EqualWeighting c = rw c.in-EqualWeighting.is (ap some c.deal_equally.ensures)

pub returns-in_default : goal.returns-in_default
returns-in_default c = c.deal_by_variance.ensures ∙ sym (inside_varied _ _ _ _ _ _ c.in_default.not-EqualWeighting)
