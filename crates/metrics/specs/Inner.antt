-- What the private functions ask of one another and promise: may be skipped. Definitions only.
use Rattle.std.specs.Prelude.{ℕ, ◌*◌, ◌<◌, ◌≡◌, true, false, List, length, Float}
use Rattle.lent.specs.Lent.{over_limit}
use Rattle.ordering.specs.Nearest.{no_part}
use Rattle.metrics.specs.declared.Metric.{Metric}
use Rattle.metrics.specs.declared.Metric.TheVariants.{SharpeRatio}
use Rattle.metrics.specs.Split.{Inputs}
use Rattle.metrics.specs.Names.{is_tail_risk}

-- for the crate above: what a call gives that no measure of a side with a variance refuses

-- what a tail-risk metric asks: rows of a return for each of n assets, and a confidence from 0 to 1
pub record Tailed (returns : List Float) (h : ℕ) (confidence : Float) (n : ℕ) : Type 0 where
  pub rows : 0 < h
  pub limits : over_limit h n ≡ false
  pub cells : length returns ≡ h * n
  pub part : no_part confidence ≡ false

-- what a metric asks: an expected return for each asset under Sharpe, and the above under a tail-risk metric
pub record Fed (metric : Metric) (x : Inputs) (n : ℕ) : Type 0 where
  pub expects : metric ≡ SharpeRatio → length x.expected ≡ n
  pub tailed : is_tail_risk metric ≡ true → Tailed x.returns x.return_rows x.confidence n

-- what the metrics read, by its parts
abbrev pub inputs : List Float → List Float → ℕ → Float → Inputs
inputs e xs h q = record { expected = e; returns = xs; return_rows = h; confidence = q }
