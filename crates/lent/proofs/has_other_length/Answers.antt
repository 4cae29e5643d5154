-- `lent::has_other_length` meets its contract. Assumes nothing.
use Rattle.lent.proofs.Sizes.{length_none, length_odd, length_even}
use mathlib.Core.Path.{sym}
use Rattle.lent.proofs.has_other_length.Goals as goal

pub returns-then-columns-eq0 : goal.returns-then-columns-eq0
returns-then-columns-eq0 c = sym (length_none _ _ _ c.if-columns-eq0.true)

pub returns-then-len-columns-ne0 : goal.returns-then-len-columns-ne0
returns-then-len-columns-ne0 c = sym (length_odd _ _ _ c.if-len-columns-ne0.true)

pub returns : goal.returns
returns c = sym (length_even _ _ _ c.if-columns-eq0.false c.if-len-columns-ne0.false)
