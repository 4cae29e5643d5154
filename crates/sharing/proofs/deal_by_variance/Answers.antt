-- `sharing::deal_by_variance` meets its contract. Assumes nothing.
use mathlib.Core.Path.{sym, ◌∙◌}
use Rattle.std.proofs.lemmas.Result.{err_from_is_err_and}
use Rattle.sharing.proofs.Laws.{varied_none, varied_some}
use Rattle.sharing.proofs.deal_by_variance.Goals as goal

pub returns-in_err-inverse_variance_weights : goal.returns-in_err-inverse_variance_weights
returns-in_err-inverse_variance_weights c =
    let p = err_from_is_err_and c.from_residual.result c.from_residual.ensures.1 in
    rw p.1 (varied_none _ _ _ _ _ c.requires.few _ (sym c.inverse_variance_weights.ensures.value ∙ c.in_err-inverse_variance_weights.was))

pub returns : goal.returns
returns c = varied_some _ _ _ _ _ c.requires.few _ _ _ _ (sym c.inverse_variance_weights.ensures.value ∙ c.in_ok-inverse_variance_weights.was) c.inverse_variance_weights.ensures.out_after c.deal.ensures
