-- `pairing::offered` meets its contract. Assumes nothing.
use mathlib.Core.Path.{sym, ◌∙◌}
use Rattle.pairing.specs.Pairing.{offer}
use Rattle.pairing.proofs.Offers.{offer_far}
use Rattle.pairing.proofs.offered.Goals as goal

pub returns-then-is_far : goal.returns-then-is_far
returns-then-is_far c = sym (offer_far _ _ _ _ _ _ c.if-best.true (c.is_far.ensures.far c.if-is_far.true))

pub returns-then-is_better : goal.returns-then-is_better
unfolding offer
returns-then-is_better c = rw (sym c.is_better.ensures ∙ c.if-is_better.true) c.paired.ensures

pub returns : goal.returns
unfolding offer
returns c = rw (sym c.is_better.ensures ∙ c.if-is_better.false)
