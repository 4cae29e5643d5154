-- `fractions::fill` meets its contract. Assumes nothing.
use Rattle.fractions.proofs.Weights.{ranks_are}
use Rattle.fractions.proofs.fill.Goals as goal

pub returns-clause-ranks_after : goal.returns-clause-ranks_after
returns-clause-ranks_after c = ranks_are _ _ _ _ c.measure.ensures.keyed c.put_ranks.ensures
