-- Document 01, refusal 2, and document 02, request 1: the names of metrics, and what a metric reads. Definitions only.
use Rattle.std.specs.Prelude.{ℕ, Bool, true, false, cond, List, Ok, Err}
use Rattle.text.specs.Bytes.{bytes, same}
use Rattle.refusal.specs.Telling.{Telling, accepts, refuses}
use Rattle.refusal.specs.declared.Refusal.TheVariants.{UnknownAllocationMetric}
use Rattle.metrics.specs.declared.Metric.{Metric}
use Rattle.metrics.specs.declared.Metric.TheVariants.{MinimumVariance, MinimumStandardDeviation, SharpeRatio, EqualWeighting, ExpectedShortfall, ConditionalDrawdownRisk}
use Rattle.metrics.specs.Outcomes.{NamedMetric}

-- "metric is none of the source's six names (case matters)" (2)
unfoldable pub metric_named : List ℕ → NamedMetric
metric_named name =
    cond (same name (bytes "minimum_variance")) (Ok MinimumVariance)
    (cond (same name (bytes "minimum_standard_deviation")) (Ok MinimumStandardDeviation)
    (cond (same name (bytes "sharpe_ratio")) (Ok SharpeRatio)
    (cond (same name (bytes "equal_weighting")) (Ok EqualWeighting)
    (cond (same name (bytes "expected_shortfall")) (Ok ExpectedShortfall)
    (cond (same name (bytes "conditional_drawdown_risk")) (Ok ConditionalDrawdownRisk)
    (Err UnknownAllocationMetric))))))

-- 0 and the metric, or the refusal's number and values
abbrev pub named_metric_tells : NamedMetric → Telling Metric
named_metric_tells (Ok m) = accepts m
named_metric_tells (Err r) = refuses r

-- the metric that reads expected returns
unfoldable pub is_sharpe : Metric → Bool
is_sharpe MinimumVariance = false
is_sharpe MinimumStandardDeviation = false
is_sharpe SharpeRatio = true
is_sharpe EqualWeighting = false
is_sharpe ExpectedShortfall = false
is_sharpe ConditionalDrawdownRisk = false

-- the two metrics that read rows of returns and the confidence: document 02, request 1
unfoldable pub is_tail_risk : Metric → Bool
is_tail_risk MinimumVariance = false
is_tail_risk MinimumStandardDeviation = false
is_tail_risk SharpeRatio = false
is_tail_risk EqualWeighting = false
is_tail_risk ExpectedShortfall = true
is_tail_risk ConditionalDrawdownRisk = true
