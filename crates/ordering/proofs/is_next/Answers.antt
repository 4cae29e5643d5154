-- `ordering::is_next` meets its contract. Assumes nothing.
use Rattle.std.proofs.Common.{◌∙◌}
use Rattle.std.proofs.lemmas.Bool.{le-ltb}
use Rattle.ordering.proofs.Merging.{leads_some, leads_none}
use Rattle.ordering.proofs.is_next.Goals as goal

pub returns-then-j-xs : goal.returns-then-j-xs
returns-then-j-xs c = c.comes_before.ensures ∙ leads_some _ _ _ c.if-j-xs.true

pub returns-else-j-xs : goal.returns-else-j-xs
returns-else-j-xs c = le-ltb _ _ c.if-j-xs.false ∙ leads_none _ _ _ c.if-j-xs.false
