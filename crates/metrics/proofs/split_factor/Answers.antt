-- `metrics::split_factor` meets its contract. Assumes nothing.
use mathlib.Core.Path.{sym, ◌∙◌}
use Rattle.std.proofs.lemmas.Result.{err_from_is_err_and}
use Rattle.metrics.proofs.Laws.{left_none, right_none, both_fine}
use Rattle.metrics.proofs.split_factor.Goals as goal

pub returns-in_err-l-clause-value : goal.returns-in_err-l-clause-value
returns-in_err-l-clause-value c =
    let p = err_from_is_err_and c.from_residual.result c.from_residual.ensures.1 in
    rw (p.1, p.2) (left_none _ _ _ _ _ _ _ _ (sym c.cluster_variance.ensures ∙ c.in_err-l.was))

pub returns-in_err-r-clause-value : goal.returns-in_err-r-clause-value
returns-in_err-r-clause-value c =
    let p = err_from_is_err_and c.from_residual-in_err-r.result c.from_residual-in_err-r.ensures.1 in
    let l = sym c.cluster_variance.ensures ∙ c.in_ok-l.was in
    rw (p.1, p.2) (right_none _ _ _ _ _ _ _ _ _ l (sym c.cluster_variance-2.ensures ∙ c.in_err-r.was))

pub returns-clause-value : goal.returns-clause-value
returns-clause-value c =
    let l = sym c.cluster_variance.ensures ∙ c.in_ok-l.was in
    let r = sym c.cluster_variance-2.ensures ∙ c.in_ok-r.was in
    both_fine _ _ _ _ _ _ _ _ _ _ _ l r c.clear.auto.out c.score.ensures.value
