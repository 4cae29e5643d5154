-- `metrics::score` meets its contract. Assumes nothing.
use mathlib.Core.Path.{sym, ◌∙◌}
use Rattle.std.proofs.lemmas.Result.{err_from_is_err_and}
use Rattle.metrics.specs.declared.Metric.TheVariants.{SharpeRatio, ExpectedShortfall, ConditionalDrawdownRisk}
use Rattle.metrics.proofs.Laws.{left_read, right_read, both_read}
use Rattle.metrics.proofs.score.Goals as goal

pub returns-in_err-s-in-SharpeRatio-clause-value : goal.returns-in_err-s-in-SharpeRatio-clause-value
returns-in_err-s-in-SharpeRatio-clause-value c =
    let p = err_from_is_err_and c.from_residual.result c.from_residual.ensures.1 in
    let s = sym c.cluster_sharpe.ensures ∙ c.in_err-s-in-SharpeRatio.was in
    rw (p.1, p.2, c.in-SharpeRatio.is) (left_read SharpeRatio _ _ _ _ _ _ _ _ _ s)

pub returns-in_err-t-in-SharpeRatio-clause-value : goal.returns-in_err-t-in-SharpeRatio-clause-value
returns-in_err-t-in-SharpeRatio-clause-value c =
    let p = err_from_is_err_and c.from_residual-in_err-t-in-SharpeRatio.result c.from_residual-in_err-t-in-SharpeRatio.ensures.1 in
    let s = sym c.cluster_sharpe.ensures ∙ c.in_ok-s-in-SharpeRatio.was in
    let t = sym c.cluster_sharpe-in-SharpeRatio.ensures ∙ c.in_err-t-in-SharpeRatio.was in
    rw (p.1, p.2, c.in-SharpeRatio.is) (right_read SharpeRatio _ _ _ _ _ _ _ _ _ _ s t)

pub returns-in_ok-t-in-SharpeRatio-clause-value : goal.returns-in_ok-t-in-SharpeRatio-clause-value
returns-in_ok-t-in-SharpeRatio-clause-value c =
    let s = sym c.cluster_sharpe.ensures ∙ c.in_ok-s-in-SharpeRatio.was in
    let t = sym c.cluster_sharpe-in-SharpeRatio.ensures ∙ c.in_ok-t-in-SharpeRatio.was in
    rw (c.by_ratio.ensures, c.in-SharpeRatio.is) (both_read SharpeRatio _ _ _ _ _ _ _ _ _ _ s t)

pub returns-in_err-s-in-ExpectedShortfall-clause-value : goal.returns-in_err-s-in-ExpectedShortfall-clause-value
returns-in_err-s-in-ExpectedShortfall-clause-value c =
    let p = err_from_is_err_and c.from_residual-in_err-s-in-ExpectedShortfall.result c.from_residual-in_err-s-in-ExpectedShortfall.ensures.1 in
    let s = sym c.cluster_expected_shortfall.ensures.value ∙ c.in_err-s-in-ExpectedShortfall.was in
    rw (p.1, p.2, c.in-ExpectedShortfall.is) (left_read ExpectedShortfall _ _ _ _ _ _ _ _ _ s)

pub returns-in_err-t-in-ExpectedShortfall-clause-value : goal.returns-in_err-t-in-ExpectedShortfall-clause-value
returns-in_err-t-in-ExpectedShortfall-clause-value c =
    let p = err_from_is_err_and c.from_residual-in_err-t-in-ExpectedShortfall.result c.from_residual-in_err-t-in-ExpectedShortfall.ensures.1 in
    let s = sym c.cluster_expected_shortfall.ensures.value ∙ c.in_ok-s-in-ExpectedShortfall.was in
    let t = sym (rw c.cluster_expected_shortfall.auto.series at c.cluster_expected_shortfall-in-ExpectedShortfall.ensures.value) ∙ c.in_err-t-in-ExpectedShortfall.was in
    rw (p.1, p.2, c.in-ExpectedShortfall.is) (right_read ExpectedShortfall _ _ _ _ _ _ _ _ _ _ s t)

pub returns-in_ok-t-in-ExpectedShortfall-clause-value : goal.returns-in_ok-t-in-ExpectedShortfall-clause-value
returns-in_ok-t-in-ExpectedShortfall-clause-value c =
    let s = sym c.cluster_expected_shortfall.ensures.value ∙ c.in_ok-s-in-ExpectedShortfall.was in
    let t = sym (rw c.cluster_expected_shortfall.auto.series at c.cluster_expected_shortfall-in-ExpectedShortfall.ensures.value) ∙ c.in_ok-t-in-ExpectedShortfall.was in
    rw (c.by_risk-in-ExpectedShortfall.ensures, c.in-ExpectedShortfall.is) (both_read ExpectedShortfall _ _ _ _ _ _ _ _ _ _ s t)

pub returns-in_err-s-in-ConditionalDrawdownRisk-clause-value : goal.returns-in_err-s-in-ConditionalDrawdownRisk-clause-value
returns-in_err-s-in-ConditionalDrawdownRisk-clause-value c =
    let p = err_from_is_err_and c.from_residual-in_err-s-in-ConditionalDrawdownRisk.result c.from_residual-in_err-s-in-ConditionalDrawdownRisk.ensures.1 in
    let s = sym c.cluster_conditional_drawdown.ensures.value ∙ c.in_err-s-in-ConditionalDrawdownRisk.was in
    rw (p.1, p.2, c.in-ConditionalDrawdownRisk.is) (left_read ConditionalDrawdownRisk _ _ _ _ _ _ _ _ _ s)

pub returns-in_err-t-in-ConditionalDrawdownRisk-clause-value : goal.returns-in_err-t-in-ConditionalDrawdownRisk-clause-value
returns-in_err-t-in-ConditionalDrawdownRisk-clause-value c =
    let p = err_from_is_err_and c.from_residual-in_err-t-in-ConditionalDrawdownRisk.result c.from_residual-in_err-t-in-ConditionalDrawdownRisk.ensures.1 in
    let s = sym c.cluster_conditional_drawdown.ensures.value ∙ c.in_ok-s-in-ConditionalDrawdownRisk.was in
    let t = sym (rw c.cluster_conditional_drawdown.auto.series at c.cluster_conditional_drawdown-in-ConditionalDrawdownRisk.ensures.value) ∙ c.in_err-t-in-ConditionalDrawdownRisk.was in
    rw (p.1, p.2, c.in-ConditionalDrawdownRisk.is) (right_read ConditionalDrawdownRisk _ _ _ _ _ _ _ _ _ _ s t)

pub returns-in_ok-t-in-ConditionalDrawdownRisk-clause-value : goal.returns-in_ok-t-in-ConditionalDrawdownRisk-clause-value
returns-in_ok-t-in-ConditionalDrawdownRisk-clause-value c =
    let s = sym c.cluster_conditional_drawdown.ensures.value ∙ c.in_ok-s-in-ConditionalDrawdownRisk.was in
    let t = sym (rw c.cluster_conditional_drawdown.auto.series at c.cluster_conditional_drawdown-in-ConditionalDrawdownRisk.ensures.value) ∙ c.in_ok-t-in-ConditionalDrawdownRisk.was in
    rw (c.by_risk-in-ConditionalDrawdownRisk.ensures, c.in-ConditionalDrawdownRisk.is) (both_read ConditionalDrawdownRisk _ _ _ _ _ _ _ _ _ _ s t)
