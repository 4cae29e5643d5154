-- What `allocate_down_tree` answers, and what it leaves in its buffer. Definitions only.
use Rattle.std.specs.Prelude.{ℕ, Bool, not, ◌&&◌, ◌||◌, List, [], ◌∷◌, ◌++◌, ltb, eqb, length, Float}
use Rattle.arithmetic.specs.Constants.{pz}
use Rattle.refusal.specs.Table.{Line, first, Outcome}
use Rattle.refusal.specs.declared.Refusal.TheVariants.{NoData, DimensionMismatch, MissingExpectedReturnsForSharpe, InvalidNumClusters, OverLimit, SliceLength, ShortBuffer, NoTree}
use Rattle.lent.specs.Lent.{most_assets, least_scratch, over_limit, other_length, laid, answer_of, Answer}
use Rattle.tails.specs.Measures.{other_width, tail_lines}
use Rattle.clusters.specs.Shares.{is_none, weights_in}
use Rattle.tree.specs.Rows.{is_tree}
use Rattle.metrics.specs.declared.Metric.{Metric}
unfoldable pub use Rattle.metrics.specs.Names.{is_sharpe, is_tail_risk}
use Rattle.metrics.specs.Split.{Inputs}
use Rattle.sharing.specs.Allot.{down_shares}

-- "16, no return rows"; "17, under these two metrics, confidence NaN or outside 0 to 1, right after 16"
unfoldable pub metric_tail_lines : Metric → ℕ → Float → List Line
unfolding is_tail_risk
metric_tail_lines m rows confidence = tail_lines (is_tail_risk m) rows confidence

-- "cluster count 0 or above the assets" (6, with "the count asked and the assets")
abbrev pub count_line : ℕ → ℕ → Line
count_line clusters n = (eqb clusters 0 || ltb n clusters, InvalidNumClusters clusters n)

-- "Sharpe: expected length other than n 3": so many expected returns are given, or none
abbrev pub length_line : Metric → Bool → ℕ → ℕ → Line
length_line m given len n = (is_sharpe m && (given && not (eqb len n)), DimensionMismatch)

-- "Sharpe without expected returns or return rows" (4)
abbrev pub lack_line : Metric → Bool → Line
lack_line m lacking = (is_sharpe m && lacking, MissingExpectedReturnsForSharpe)

-- "return rows present with columns other than n 3", where they are read
unfoldable pub other_rows : Metric → ℕ → ℕ → ℕ → Bool
unfolding is_tail_risk
other_rows m rows columns n = is_tail_risk m && other_width rows columns n

-- the call: the expected returns may be absent, and there may be no return rows
pub record DownCall : Type 0 where
  pub metric : Metric
  pub inputs : Inputs
  pub expected_given : Bool
  pub return_columns : ℕ
  pub covariance : List Float
  pub covariance_rows : ℕ
  pub covariance_columns : ℕ
  pub rows : List ℕ
  pub assets : ℕ
  pub clusters : ℕ

-- the sizes of what the call gives, and of what it is lent
pub record DownSizes : Type 0 where
  pub assets : ℕ
  pub covariance_cells : ℕ
  pub covariance_rows : ℕ
  pub covariance_columns : ℕ
  pub return_cells : ℕ
  pub return_rows : ℕ
  pub return_columns : ℕ
  pub room : ℕ
  pub scratch : ℕ

-- 9, 10, 11; "after its 3": the covariance's size
unfoldable pub down_size_lines : DownSizes → List Line
down_size_lines s =
    (ltb most_assets s.assets, OverLimit)
    ∷ (over_limit s.covariance_rows s.covariance_columns, OverLimit)
    ∷ (over_limit s.return_rows s.return_columns, OverLimit)
    ∷ (other_length s.covariance_cells s.covariance_rows s.covariance_columns, SliceLength)
    ∷ (other_length s.return_cells s.return_rows s.return_columns, SliceLength)
    ∷ (ltb s.room s.assets, ShortBuffer)
    ∷ (ltb s.scratch least_scratch, ShortBuffer)
    ∷ (not (eqb s.covariance_rows s.assets) || not (eqb s.covariance_columns s.assets), DimensionMismatch)
    ∷ []

-- what the metric, the merge rows and the cluster count are held to
pub record DownRules : Type 0 where
  pub metric : Metric
  pub expected_given : Bool
  pub expected_length : ℕ
  pub return_rows : ℕ
  pub return_columns : ℕ
  pub confidence : Float
  pub rows : List ℕ
  pub assets : ℕ
  pub clusters : ℕ

-- then the expected returns' length under Sharpe (3), then the columns of return rows under a tail-risk metric (3); "n = 0 is 1, then 14"; 4; 16, 17; 6
unfoldable pub down_rule_lines : DownRules → List Line
unfolding is_sharpe other_rows metric_tail_lines
down_rule_lines r =
    length_line r.metric r.expected_given r.expected_length r.assets
    ∷ (other_rows r.metric r.return_rows r.return_columns r.assets, DimensionMismatch)
    ∷ (eqb r.assets 0, NoData)
    ∷ (not (is_tree r.rows r.assets), NoTree)
    ∷ lack_line r.metric (not r.expected_given)
    ∷ (metric_tail_lines r.metric r.return_rows r.confidence
    ++ (count_line r.clusters r.assets ∷ []))

-- the sizes of a call, its buffer for the weights and its scratch
abbrev pub down_sizes : DownCall → ℕ → ℕ → DownSizes
down_sizes q room scratch = record {
  assets = q.assets;
  covariance_cells = length q.covariance;
  covariance_rows = q.covariance_rows;
  covariance_columns = q.covariance_columns;
  return_cells = length q.inputs.returns;
  return_rows = q.inputs.return_rows;
  return_columns = q.return_columns;
  room = room;
  scratch = scratch;
}

-- what of a call is held to rules
abbrev pub down_rules : DownCall → DownRules
down_rules q = record {
  metric = q.metric;
  expected_given = q.expected_given;
  expected_length = length q.inputs.expected;
  return_rows = q.inputs.return_rows;
  return_columns = q.return_columns;
  confidence = q.inputs.confidence;
  rows = q.rows;
  assets = q.assets;
  clusters = q.clusters;
}

-- what refuses a call before anything is shared out, in order
unfoldable pub down_given : DownCall → ℕ → ℕ → List Line
unfolding down_size_lines down_rule_lines
down_given q room scratch = down_size_lines (down_sizes q room scratch) ++ down_rule_lines (down_rules q)

-- then what the recursion itself refuses: a side or, not under equal weighting, a cut cluster that has a variance ≤ 0, or reciprocals that sum to ≤ 0
unfoldable pub down_table : DownCall → ℕ → ℕ → List Line
unfolding down_given
down_table q room scratch =
    down_given q room scratch ++ ((is_none (down_shares q.metric q.inputs q.covariance q.rows q.assets q.clusters), NoData) ∷ [])

unfoldable pub down_outcome : DownCall → ℕ → ℕ → Outcome
unfolding down_table
down_outcome q room scratch = first (down_table q room scratch)

-- one row of a weight for each asset
unfoldable pub down_answer : DownCall → ℕ → ℕ → Answer
unfolding down_outcome
down_answer q room scratch = answer_of (down_outcome q room scratch) 1 q.assets

unfoldable pub down_weights : DownCall → ℕ → ℕ → List Float
unfolding down_outcome
down_weights q room scratch =
    laid pz (down_outcome q room scratch) room (weights_in (down_shares q.metric q.inputs q.covariance q.rows q.assets q.clusters))
