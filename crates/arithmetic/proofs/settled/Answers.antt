-- `arithmetic::settled` meets its contract. Assumes nothing.
use Rattle.std.proofs.Common.{sym, ◌∙◌}
use Rattle.arithmetic.proofs.Facts.{made_nan, other_nan}
use Rattle.arithmetic.proofs.settled.Goals as goal

pub returns-then-x : goal.returns-then-x
returns-then-x c = made_nan ∙ sym (other_nan _ c.if-x.true)
