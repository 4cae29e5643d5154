-- `ceilings::are_unlike` meets its contract. Assumes nothing.
use Rattle.std.proofs.Common.{◌∙◌, sym, ap, not}
use borrow.Author.Tests.{eqb-true, eqb-false}
use Rattle.ceilings.proofs.Unlike.{unlike_some, unlike_none}
use Rattle.ceilings.proofs.are_unlike.Goals as goal

pub returns-then-not-is_empty : goal.returns-then-not-is_empty
returns-then-not-is_empty c = unlike_some _ _ (eqb-false _ _ (sym c.is_empty.ensures ∙ c.if-not-is_empty.true))

pub returns-else-not-is_empty : goal.returns-else-not-is_empty
returns-else-not-is_empty c = ap not c.if-not-is_empty.false ∙ unlike_none _ _ (eqb-true _ _ (sym c.is_empty.ensures ∙ c.if-not-is_empty.false))
