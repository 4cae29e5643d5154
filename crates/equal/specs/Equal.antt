-- Demand 3 of the mission: what equal weighting shares out. "Exact values are stated over whole numbers: a finite double stands for its whole multiple of 2^-1074",
-- so that one is 2^1074, and 2^-53 is 2^1021; denominators are multiplied out. Definitions only.
use Rattle.std.specs.Prelude.{◌≡◌, List, ℕ, ◌+◌, ◌*◌, ◌^◌, ◌≤◌, ◌<◌, Float, length, get_or}
use Rattle.std.specs.Float.{nan, binary64}
use Rattle.std.specs.Float.Ieee.{mul}
use Rattle.arithmetic.specs.Arithmetic.{one_over}
use Rattle.arithmetic.specs.Exact.{units_of, Plain, halves, Nearest}
use Rattle.lent.specs.Count.{count, upto}
use Rattle.equal.specs.Clusters.{Cluster, clusters, cluster_at}

-- the weight at an asset's place
abbrev pub weight : List Float → ℕ → Float
weight ws a = get_or ws a nan

-- the exact total of the first n weights
abbrev pub total : List Float → ℕ → ℕ
total ws n = upto (λ a. units_of (weight ws a)) n

-- what an asset of a cluster gets: the share, times 1/m rounded
abbrev pub portion : Cluster → Float
portion c = mul binary64 (halves c.above) (one_over (length c.assets))

-- what a cluster gets, and each of its m assets
pub record ClusterShare (ws : List Float) (c : Cluster) : Type 0 where
  -- it has an asset
  pub some : 1 ≤ length c.assets
  -- "a cluster's share is one, halved exactly once for each split above it"
  pub exact_share : Plain (halves c.above)
  pub share : units_of (halves c.above) * 2 ^ c.above ≡ 2 ^ 1074
  -- "the double nearest 1/m"
  pub near : Nearest (length c.assets) (one_over (length c.assets))
  -- "each asset in a cluster of m gets that share times the double nearest 1/m"
  pub gets : (a : ℕ) → 1 ≤ count a c.assets → weight ws a ≡ portion c
  -- a product that loses nothing
  pub exact_weight : Plain (portion c)
  pub unrounded : units_of (portion c) * 2 ^ c.above ≡ units_of (one_over (length c.assets))

-- asset a is in cluster j, once, and in no other of the k
pub record Only (rows : List ℕ) (n k a j : ℕ) : Type 0 where
  pub one_of : j < k
  pub once : count a (cluster_at rows n k j).assets ≡ 1
  pub alone : (i : ℕ) → i < k → 1 ≤ count a (cluster_at rows n k i).assets → i ≡ j

pub record EqualShares (n k : ℕ) (rows : List ℕ) (ws : List Float) : Type 0 where
  -- a weight for each asset
  pub size : length ws ≡ n
  -- "each asset in exactly one of exactly k clusters"
  pub number : length (clusters rows n k) ≡ k
  pub each_asset : (a : ℕ) → a < n → (j : ℕ) × Only rows n k a j
  -- and nothing else in any of them
  pub assets_only : (a j : ℕ) → n ≤ a → j < k → count a (cluster_at rows n k j).assets ≡ 0
  -- "a cluster's share", and what "each asset in a cluster of m gets"
  pub each_cluster : (j : ℕ) → j < k → ClusterShare ws (cluster_at rows n k j)
  -- "the k shares total exactly one"
  pub whole : upto (λ j. units_of (halves (cluster_at rows n k j).above)) k ≡ 2 ^ 1074
  -- "the weights' exact total is within 2^-53 of one"
  pub least : 2 ^ 1074 ≤ total ws n + 2 ^ 1021
  pub most : total ws n ≤ 2 ^ 1074 + 2 ^ 1021
