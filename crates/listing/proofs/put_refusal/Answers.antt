-- `listing::put_refusal` meets its contract. Assumes nothing.
use mathlib.Core.Path.{◌∙◌}
use Rattle.listing.proofs.Lines.{refusal_put}
use Rattle.listing.proofs.put_refusal.Goals as goal

pub shape_of-out : goal.shape_of-out
shape_of-out c = c.put_byte.auto.out ∙ c.put_decimal-counted.auto.out ∙ c.put_bytes-headed.auto.out

pub returns : goal.returns
returns c =
    refusal_put _ c.put_bytes-headed.ensures c.put_decimal-counted.ensures c.put_byte.ensures c.requires
