-- HCAA: what `allocate` answers, and what it leaves in each lent buffer, for every input. Document 01, "Order", HCAA; document 02, request 1. Definitions only.
use Rattle.std.specs.Prelude.{ℕ, ◌-◌, ◌*◌, ◌≡◌, Bool, true, false, not, ◌&&◌, cond, List, [], ◌∷◌, ◌++◌, ltb, eqb, length, take, Float, Some, Ok, None, Err}
use Rattle.refusal.specs.Table.{Line, first, Outcome}
use Rattle.refusal.specs.declared.Refusal.TheVariants.{NoData, UnknownAllocationMetric, DimensionMismatch, UnknownReturns}
use Rattle.lent.specs.Grid.{grid, tab}
use Rattle.text.specs.Bytes.{bytes, is_word}
use Rattle.resample.specs.Resample.{step_of, kept_rows}
use Rattle.inputs.specs.Inputs.{absent, other_size, matrix_lines, no_returns, made_returns}
use Rattle.stats.specs.Covariance.{covariance_cell}
use Rattle.stats.specs.Expected.{mean_return, exponential_return}
use Rattle.linkage.specs.declared.Distance.{Distance}
use Rattle.linkage.specs.declared.Linkage.{Linkage}
use Rattle.metrics.specs.declared.Metric.{Metric}
use Rattle.metrics.specs.declared.Metric.TheVariants.{EqualWeighting}
use Rattle.sharing.specs.Names.{metric_named}
use Rattle.sharing.specs.Split.{Inputs}
use Rattle.tails.specs.Measures.{other_width}
use Rattle.sharing.specs.Down.{is_sharpe, length_line, lack_line}
use Rattle.equal.specs.Equal.{EqualShares}
use Rattle.hierarchy.specs.Hierarchy.{Rule, Room, room_lines, share_lines, HierarchyLaid}
use Rattle.hcaa.specs.Outcomes.{Clusters}
use Rattle.lent.specs.Lent.{Shape}
use Rattle.metrics.specs.Outcomes.{NamedMetric}

-- ---- the call

-- the expected returns may be absent
pub record HcaaJob : Type 0 where
  pub assets : ℕ
  pub prices : List Float
  pub prices_shape : Shape
  pub returns : List Float
  pub returns_shape : Shape
  pub covariance : List Float
  pub covariance_shape : Shape
  pub expected : List Float
  pub expected_given : Bool
  pub metric : List ℕ
  pub method : List ℕ
  pub confidence : Float
  pub clusters : Clusters
  pub resample_by : List ℕ
  pub distance : Distance
  pub linkage : Linkage

-- ---- "returns if given, else returns made from prices (even where a covariance is given), else none": by the shapes of the two

-- how many rows: of prices sampled by a step
unfoldable pub hcaa_return_rows : ℕ → Shape → Shape → ℕ
hcaa_return_rows step (Some s) p = s.rows
hcaa_return_rows step None (Some s) = kept_rows s.rows step - 1
hcaa_return_rows step None None = 0

unfoldable pub return_columns : Shape → Shape → ℕ
return_columns (Some s) p = s.columns
return_columns None (Some s) = s.columns
return_columns None None = 0

-- the cells: of prices, or those given
unfoldable pub hcaa_return_cells : List Float → List Float → ℕ → Shape → Shape → List Float
hcaa_return_cells prices given step (Some s) p = given
hcaa_return_cells prices given step None (Some s) = made_returns prices s.rows s.columns step
hcaa_return_cells prices given step None None = []

-- the price rules: 1
unfoldable pub prices_refused : List Float → ℕ → Shape → Shape → Bool
prices_refused prices step (Some s) p = false
prices_refused prices step None (Some s) = no_returns prices s.rows s.columns step
prices_refused prices step None None = false

unfoldable pub rows_made : HcaaJob → ℕ
unfolding hcaa_return_rows
rows_made j = hcaa_return_rows (step_of j.resample_by) j.returns_shape j.prices_shape

unfoldable pub columns_made : HcaaJob → ℕ
unfolding return_columns
columns_made j = return_columns j.returns_shape j.prices_shape

unfoldable pub cells_made : HcaaJob → List Float
unfolding hcaa_return_cells
cells_made j = hcaa_return_cells j.prices j.returns (step_of j.resample_by) j.returns_shape j.prices_shape

-- ---- the covariance of n assets: the given one, else that of `rows` rows of returns; by the shape of the given one

unfoldable pub hcaa_covariance_by : List Float → List Float → ℕ → ℕ → Shape → List Float
hcaa_covariance_by given cells rows n (Some s) = given
hcaa_covariance_by given cells rows n None = grid n n (covariance_cell cells rows n)

unfoldable pub hcaa_covariance : HcaaJob → List Float
unfolding hcaa_covariance_by rows_made cells_made
hcaa_covariance j = hcaa_covariance_by j.covariance (cells_made j) (rows_made j) j.assets j.covariance_shape

-- ---- the metric

-- its name read; a name that is refused stands for equal weighting, and is never used
unfoldable pub metric_of : NamedMetric → Metric
metric_of (Ok m) = m
metric_of (Err r) = EqualWeighting

unfoldable pub used_metric : HcaaJob → Metric
unfolding metric_of
used_metric j = metric_of (metric_named j.metric)

unfoldable pub unnamed : NamedMetric → Bool
unnamed (Ok m) = false
unnamed (Err r) = true

-- ---- the expected returns, which Sharpe alone reads

-- "the method is neither `mean` nor `exponential` (any case)"
unfoldable pub is_mean : List ℕ → Bool
is_mean method = is_word method (bytes "mean")

unfoldable pub is_exponential : List ℕ → Bool
is_exponential method = is_word method (bytes "exponential")

-- "Expected returns: mean times 252; or exponential"; by whether they are given
unfoldable pub expected_of : HcaaJob → Bool → List Float
unfolding rows_made cells_made is_mean
expected_of j true = j.expected
expected_of j false =
    cond (is_mean j.method)
    (tab j.assets (mean_return (cells_made j) (rows_made j) j.assets))
    (tab j.assets (exponential_return (cells_made j) (rows_made j) j.assets))

unfoldable pub used_expected : HcaaJob → List Float
unfolding expected_of used_metric
used_expected j = cond (is_sharpe (used_metric j)) (expected_of j j.expected_given) []

-- ---- how the money is shared out

-- `-` for all
unfoldable pub cluster_count : Clusters → ℕ → ℕ
cluster_count None n = n
cluster_count (Some k) n = k

-- what the metrics read: the expected returns, the rows of returns, and the confidence
unfoldable pub used_inputs : HcaaJob → Inputs
unfolding used_expected rows_made cells_made
used_inputs j = record { expected = used_expected j; returns = cells_made j; return_rows = rows_made j; confidence = j.confidence }

unfoldable pub used_rule : HcaaJob → Rule
unfolding used_metric used_inputs cluster_count
used_rule j = record { metric = used_metric j; inputs = used_inputs j; clusters = cluster_count j.clusters j.assets }

-- ---- refusals

-- "no matrix at all 1; metric 2 ..; no assets 1" ("12 is no longer given": document 02, request 1), of n assets, the shapes of prices, returns and covariance, and the metric's name as it was read
unfoldable pub names_judged : ℕ → Shape → Shape → Shape → NamedMetric → List Line
unfolding unnamed
names_judged n prices returns covariance read =
    (absent prices && (absent returns && absent covariance), NoData)
    ∷ (unnamed read, UnknownAllocationMetric)
    ∷ (eqb n 0, NoData)
    ∷ []

unfoldable pub name_lines : HcaaJob → List Line
unfolding names_judged
name_lines j = names_judged j.assets j.prices_shape j.returns_shape j.covariance_shape (metric_named j.metric)

-- "return rows present with columns other than n 3; no covariance and under 2 return rows 1; covariance not n by n 3", of so many rows of w columns
unfoldable pub rows_judged : ℕ → ℕ → ℕ → Shape → List Line
rows_judged n rows w covariance =
    (other_width rows w n, DimensionMismatch)
    ∷ (absent covariance && ltb rows 2, NoData)
    ∷ (other_size covariance n, DimensionMismatch)
    ∷ []

-- the price rules 1, then those
unfoldable pub matrix_rules : HcaaJob → List Line
unfolding rows_made columns_made prices_refused rows_judged
matrix_rules j =
    (prices_refused j.prices (step_of j.resample_by) j.returns_shape j.prices_shape, NoData)
    ∷ rows_judged j.assets (rows_made j) (columns_made j) j.covariance_shape

-- "Sharpe: expected length other than n 3, else 4, else 5": of len expected returns, or none given, a method, and so many return rows
unfoldable pub sharpe_judged : Metric → Bool → List ℕ → ℕ → ℕ → ℕ → List Line
unfolding is_mean is_exponential
sharpe_judged m given method len n rows =
    length_line m given len n
    ∷ lack_line m (not given && eqb rows 0)
    ∷ (is_sharpe m && (not given && (not (is_mean method) && not (is_exponential method))), UnknownReturns)
    ∷ []

unfoldable pub sharpe_lines : HcaaJob → List Line
unfolding rows_made used_metric sharpe_judged
sharpe_lines j = sharpe_judged (used_metric j) j.expected_given j.method (length j.expected) j.assets (rows_made j)

-- then 16, 17, 6 and the risk: share_lines of the crate hierarchy
unfoldable pub hcaa_table : HcaaJob → Room → List Line
unfolding name_lines matrix_rules sharpe_lines used_rule hcaa_covariance
hcaa_table j room =
    matrix_lines j.assets j.prices_shape (length j.prices) j.returns_shape (length j.returns) j.covariance_shape (length j.covariance)
    ++ (room_lines j.assets room
    ++ (name_lines j ++ (matrix_rules j ++ (sharpe_lines j ++ share_lines (used_rule j) j.distance j.linkage (hcaa_covariance j) j.assets))))

unfoldable pub hcaa_outcome : HcaaJob → Room → Outcome
unfolding hcaa_table
hcaa_outcome j room = first (hcaa_table j room)

-- ---- the answer, and every lent buffer

-- demand 3: an accepted job by equal weighting leaves equal shares, in the front of the rows and of the weights
pub record Equally (j : HcaaJob) (r : Outcome) (rows : List ℕ) (weights : List Float) : Type 0 where
  pub shares : r ≡ Ok tt → used_metric j ≡ EqualWeighting
      → EqualShares j.assets (cluster_count j.clusters j.assets) (take (2 * (j.assets - 1)) rows) (take j.assets weights)

-- `HierarchyLaid` of the crate hierarchy says what an outcome leaves in each
pub record HcaaAllocated (j : HcaaJob) (room : Room) (r : Outcome) (rows order : List ℕ) (weights scratch : List Float) : Type 0 where
  pub answer : r ≡ hcaa_outcome j room
  pub buffers : HierarchyLaid (hcaa_outcome j room) (used_rule j) j.distance j.linkage (hcaa_covariance j) j.assets room rows order weights scratch
  pub equally : Equally j r rows weights
