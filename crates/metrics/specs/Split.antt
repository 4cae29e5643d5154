-- Document 01, "Sharing out", and document 02, request 1: the factor of a split. Definitions only.
use Rattle.std.specs.Prelude.{ℕ, Bool, true, false, cond, ◌&&◌, List, Float, Ok, Err}
use Rattle.std.specs.Float.{binary64}
use Rattle.std.specs.Float.Ieee.{add, div, lt, le}
use Rattle.arithmetic.specs.Constants.{pz, unit, half}
use Rattle.arithmetic.specs.Arithmetic.{clamp_of, finite_of}
use Rattle.arithmetic.specs.Root.{root}
use Rattle.refusal.specs.Telling.{Telling, accepts, refuses}
use Rattle.clusters.specs.Clusters.{variance_answer, expectation, ratio, sharpe_answer}
use Rattle.clusters.specs.Shares.{factor_of}
use Rattle.tails.specs.Tail.{shortfall_of, drawdown_of}
use Rattle.tails.specs.Measures.{MeasureCall, shortfall_answer, drawdown_answer}
use Rattle.metrics.specs.declared.Metric.{Metric}
use Rattle.metrics.specs.declared.Metric.TheVariants.{MinimumVariance, MinimumStandardDeviation, SharpeRatio, EqualWeighting, ExpectedShortfall, ConditionalDrawdownRisk}
use Rattle.metrics.specs.declared.Split.{Split}
use Rattle.clusters.specs.Outcomes.{Risk}
use Rattle.metrics.specs.Outcomes.{Splitting}

-- "A non-finite factor is 0.5; others clamp to 0..1."
unfoldable pub bounded : Float → Float
bounded f = cond (finite_of f) (clamp_of f pz unit) half

-- "a split keeps left risk, right risk and the left factor together"
unfoldable pub split_by : Float → Float → Float → Split
unfolding bounded
split_by l r f = record { left = l; right = r; factor = bounded f }

-- "variance and deviation 1 − l/(l + r + EPSILON)"
unfoldable pub by_risk : Float → Float → Split
unfolding split_by
by_risk l r = split_by l r (factor_of l r)

-- "when both are ≥ 0 and the sum > 0"
unfoldable pub fair : Float → Float → Bool
fair s t = (le pz s && le pz t) && lt pz (add binary64 s t)

abbrev pub pick_split : Bool → Split → Split → Split
pick_split true a b = a
pick_split false a b = b

-- "Sharpe l/(l + r) .., else the variance factor": s and t are the ratios, l and r the variances
unfoldable pub by_ratio : Float → Float → Float → Float → Split
unfolding fair split_by by_risk
by_ratio s t l r = pick_split (fair s t) (split_by s t (div binary64 s (add binary64 s t))) (by_risk l r)

-- what the metrics read beside the covariance: the expected returns (Sharpe); the rows of returns and the confidence (the tail-risk metrics)
pub record Inputs : Type 0 where
  pub expected : List Float
  pub returns : List Float
  pub return_rows : ℕ
  pub confidence : Float

-- what a metric reads of a side of variance v: the variance, its root, the ratio, or a tail-risk measure
abbrev pub read_of_side : Metric → Inputs → List Float → ℕ → List ℕ → Float → Float
read_of_side MinimumVariance x cov n side v = v
read_of_side MinimumStandardDeviation x cov n side v = root v
read_of_side SharpeRatio x cov n side v = ratio (expectation x.expected cov n side) v
read_of_side EqualWeighting x cov n side v = v
read_of_side ExpectedShortfall x cov n side v = shortfall_of x.returns x.return_rows cov n side x.confidence
read_of_side ConditionalDrawdownRisk x cov n side v = drawdown_of x.returns x.return_rows cov n side x.confidence

-- the split by what was read, s of the left side and t of the right; l and r are the variances
abbrev pub split_read : Metric → Float → Float → Float → Float → Split
split_read MinimumVariance l r s t = by_risk s t
split_read MinimumStandardDeviation l r s t = by_risk s t
split_read SharpeRatio l r s t = by_ratio s t l r
split_read EqualWeighting l r s t = split_by l r half
split_read ExpectedShortfall l r s t = by_risk s t
split_read ConditionalDrawdownRisk l r s t = by_risk s t

-- l and r are the variances of the two sides a and b
unfoldable pub scored : Metric → Inputs → List Float → ℕ → List ℕ → List ℕ → Float → Float → Split
unfolding by_risk by_ratio split_by
scored metric x cov n a b l r = split_read metric l r (read_of_side metric x cov n a l) (read_of_side metric x cov n b r)

-- go on with two risks, where there are both
abbrev pub with_risks : Risk → Risk → (Float → Float → Splitting) → Splitting
with_risks (Err k) w f = Err k
with_risks (Ok x) (Err k) f = Err k
with_risks (Ok x) (Ok y) f = f x y

-- "after both variances have been worked out", whatever the metric: a side that has none refuses
abbrev pub split_of_both : Risk → Risk → (Float → Float → Split) → Splitting
split_of_both v w f = with_risks v w (λ x y. Ok (f x y))

unfoldable pub split_of : Metric → Inputs → List Float → ℕ → List ℕ → List ℕ → Splitting
unfolding scored
split_of metric x cov n a b = split_of_both (variance_answer cov n n a) (variance_answer cov n n b) (scored metric x cov n a b)

-- 0 and the split, or the refusal's number and values
abbrev pub splitting_tells : Splitting → Telling Split
splitting_tells (Ok s) = accepts s
splitting_tells (Err r) = refuses r

-- ---- the call

-- a side's tail risk is asked for over its assets, in the covariance and the rows of returns of all n
abbrev pub side_call : Inputs → List Float → ℕ → ℕ → List ℕ → MeasureCall
side_call x cov n room side = record {
  returns = x.returns;
  return_rows = x.return_rows;
  return_columns = n;
  covariance = cov;
  covariance_rows = n;
  covariance_columns = n;
  assets = side;
  confidence = x.confidence;
  room = room;
}

-- what a metric reads of a side, as the call of its measure answers it, which is lent `room` doubles for the series
abbrev pub read_answer : Metric → Inputs → List Float → ℕ → ℕ → List ℕ → Float → Risk
read_answer MinimumVariance x cov n room side v = Ok v
read_answer MinimumStandardDeviation x cov n room side v = Ok (root v)
read_answer SharpeRatio x cov n room side v = sharpe_answer x.expected cov n n side
read_answer EqualWeighting x cov n room side v = Ok v
read_answer ExpectedShortfall x cov n room side v = shortfall_answer (side_call x cov n room side)
read_answer ConditionalDrawdownRisk x cov n room side v = drawdown_answer (side_call x cov n room side)

-- as `scored`, where what the metric reads may be refused: the left side first
unfoldable pub scored_answer : Metric → Inputs → List Float → ℕ → List ℕ → List ℕ → ℕ → Float → Float → Splitting
unfolding by_risk by_ratio split_by
scored_answer metric x cov n a b room l r = split_of_both (read_answer metric x cov n room a l) (read_answer metric x cov n room b r) (split_read metric l r)

-- what `split_factor` returns: the refusal of a variance, then of what the metric reads, else the split
unfoldable pub split_answer : Metric → Inputs → List Float → ℕ → List ℕ → List ℕ → ℕ → Splitting
unfolding scored_answer
split_answer metric x cov n a b room = with_risks (variance_answer cov n n a) (variance_answer cov n n b) (scored_answer metric x cov n a b room)
