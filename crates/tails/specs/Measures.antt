-- What `cluster_expected_shortfall` and `cluster_conditional_drawdown` answer: assets of a covariance of w columns, and rows of returns of c columns. Definitions only.
use Rattle.std.specs.Prelude.{ℕ, ◌+◌, Bool, true, not, ◌&&◌, List, [], ◌∷◌, ◌++◌, ltb, eqb, length, Float}
use Rattle.refusal.specs.Table.{Line, first, Outcome}
use Rattle.refusal.specs.declared.Refusal.TheVariants.{DimensionMismatch, OverLimit, SliceLength, ShortBuffer, MissingReturnsForTailRisk, ConfidenceOutOfRange}
use Rattle.lent.specs.Lent.{over_limit, other_length}
use Rattle.ordering.specs.Nearest.{no_part}
use Rattle.clusters.specs.Clusters.{recip_sum, outside, outside_line, any_listed_low, low_lines, size_table, not_square, risk_of}
use Rattle.tails.specs.Tail.{shortfall_of, drawdown_of}
use Rattle.clusters.specs.Outcomes.{Risk}

-- the call: rows of returns, a covariance, the assets listed, the confidence, and how long a buffer is lent for the series
pub record MeasureCall : Type 0 where
  pub returns : List Float
  pub return_rows : ℕ
  pub return_columns : ℕ
  pub covariance : List Float
  pub covariance_rows : ℕ
  pub covariance_columns : ℕ
  pub assets : List ℕ
  pub confidence : Float
  pub room : ℕ

-- "Always 9, 10, 11 first", of both matrices
-- 11: a buffer for the portfolio's series: its rows and its start
unfoldable pub measure_size_lines : MeasureCall → List Line
unfolding size_table
measure_size_lines m =
    (over_limit m.return_rows m.return_columns, OverLimit)
    ∷ (size_table m.covariance m.covariance_rows m.covariance_columns m.assets
    ++ ((other_length (length m.returns) m.return_rows m.return_columns, SliceLength) ∷ (ltb m.room (m.return_rows + 1), ShortBuffer) ∷ []))

-- "return rows present with columns other than n" (3)
abbrev pub other_width : ℕ → ℕ → ℕ → Bool
other_width rows columns n = ltb 0 rows && not (eqb columns n)

-- "a matrix that must be square and isn't .. 3", and "return rows present with columns other than n 3"; "then 14"
unfoldable pub measure_shape_lines : MeasureCall → List Line
unfolding outside
measure_shape_lines m =
    not_square m.covariance_rows m.covariance_columns
    ∷ (other_width m.return_rows m.return_columns m.covariance_columns, DimensionMismatch)
    ∷ outside_line m.covariance_columns m.assets
    ∷ []

-- "16, no return rows"; "17, under these two metrics, confidence NaN or outside 0 to 1, right after 16": `tailed` says whether the metric is one of the two
abbrev pub tail_lines : Bool → ℕ → Float → List Line
tail_lines tailed rows q = (tailed && eqb rows 0, MissingReturnsForTailRisk) ∷ (tailed && no_part q, ConfidenceOutOfRange) ∷ []

-- then a variance ≤ 0, or reciprocals that sum to ≤ 0 (1), as of any cluster
unfoldable pub measure_outcome : MeasureCall → Outcome
unfolding measure_size_lines measure_shape_lines any_listed_low recip_sum
measure_outcome m =
    first
    (measure_size_lines m
    ++ (measure_shape_lines m ++ (tail_lines true m.return_rows m.confidence ++ low_lines m.covariance m.covariance_columns m.assets)))

-- what the two calls return
unfoldable pub shortfall_answer : MeasureCall → Risk
unfolding measure_outcome shortfall_of
shortfall_answer m = risk_of (measure_outcome m) (shortfall_of m.returns m.return_rows m.covariance m.covariance_columns m.assets m.confidence)

unfoldable pub drawdown_answer : MeasureCall → Risk
unfolding measure_outcome drawdown_of
drawdown_answer m = risk_of (measure_outcome m) (drawdown_of m.returns m.return_rows m.covariance m.covariance_columns m.assets m.confidence)
