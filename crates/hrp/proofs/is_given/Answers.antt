-- `hrp::is_given` meets its contract. Assumes nothing.
use mathlib.Core.Path.{sym, ◌∙◌}
use Rattle.hrp.proofs.Estimates.{given_refused, given_as}
use Rattle.hrp.proofs.is_given.Goals as goal

pub returns-then-is_err : goal.returns-then-is_err
returns-then-is_err c = given_refused _ _ (sym c.is_err.ensures.value ∙ c.if-is_err.true)

pub returns : goal.returns
returns c = given_as _ _ _ (sym c.is_err.ensures.value ∙ c.if-is_err.false) c.is_absent.ensures
