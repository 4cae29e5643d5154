-- What the private functions ask of one another and promise: may be skipped. Definitions only.
use Rattle.std.specs.Prelude.{ℕ, ◌-◌, ◌*◌, ◌≤◌, ◌<◌, ◌≡◌, Bool, List, length, Float}
use Rattle.lent.specs.Grid.{zeros}
use Rattle.lent.specs.Lent.{most_assets, least_scratch}
use Rattle.clusters.specs.Clusters.{nth}
use Rattle.tree.specs.Tree.{leaves_of}
use Rattle.tree.specs.Inner.{OnTree}
use Rattle.branches.specs.Summary.{part_of}
use Rattle.metrics.specs.declared.Metric.{Metric}
use Rattle.metrics.specs.Split.{Inputs}
use Rattle.metrics.specs.Inner.{Fed}
use Rattle.sharing.specs.Down.{DownCall}

-- a node of a tree of at most 64 assets
pub record Below (rows : List ℕ) (n v : ℕ) : Type 0 where
  pub on : OnTree rows n v
  pub most : n ≤ most_assets

-- a summary beside the order: each node's leaves are its part
pub record Summarized (rows : List ℕ) (n : ℕ) (order firsts sizes : List ℕ) : Type 0 where
  pub part : (v : ℕ) → v ≤ 2 * n - 2 → part_of order firsts sizes n v ≡ leaves_of rows n v

-- at most 64 members, each with a weight of its own among m
pub record Dealt (members : List ℕ) (m : ℕ) : Type 0 where
  pub few : length members ≤ most_assets
  pub each : (j : ℕ) → j < length members → nth members j < m

-- scratch that is lent on: enough of it, and zero
pub record Blank (scratch : List Float) : Type 0 where
  pub enough : least_scratch ≤ length scratch
  pub zero : scratch ≡ zeros (length scratch)

-- what the recursion asks: a node, the summary of its tree, at most n clusters, a weight for each asset, and what the metric asks
pub record Down (metric : Metric) (x : Inputs) (rows : List ℕ) (n k v : ℕ) (order firsts sizes : List ℕ) (ws : List Float) : Type 0 where
  pub node : Below rows n v
  pub summary : Summarized rows n order firsts sizes
  pub cut : k ≤ n
  pub each : n ≤ length ws
  pub fed : Fed metric x n

-- a call by its parts
abbrev pub down_call : Metric → Inputs → Bool → ℕ → List Float → ℕ → ℕ → List ℕ → ℕ → ℕ → DownCall
down_call metric x given w cov r c rows n k =
    record { metric = metric; inputs = x; expected_given = given; return_columns = w; covariance = cov; covariance_rows = r; covariance_columns = c; rows = rows; assets = n; clusters = k }
