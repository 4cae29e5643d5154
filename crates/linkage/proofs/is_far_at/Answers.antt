-- `linkage::is_far_at` meets its contract. Assumes nothing.
use mathlib.Core.Path.{subst}
use lib.Ieee.{Float}
use Rattle.pairing.specs.Inner.{Far}
use Rattle.linkage.proofs.is_far_at.Goals as goal

pub returns : goal.returns
returns c = λ e. subst (λ (x : Float). Far x c.args.limit) c.right.ensures (c.is_far.ensures.far e)
