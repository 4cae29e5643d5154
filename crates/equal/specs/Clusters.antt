-- Demand 3 of the mission: the clusters that the splits leave. Definitions only.
use Rattle.std.specs.Prelude.{ℕ, suc, ◌-◌, ◌*◌, Bool, true, false, List, [], ◌∷◌, ◌++◌, get_or}
use Rattle.tree.specs.Tree.{Tree, leaf, fork, tree_at, leaves}
use Rattle.sharing.specs.Allot.{splits}

-- how many splits stand above it, and its assets
pub record Cluster : Type 0 where
  pub above : ℕ
  pub assets : List ℕ

-- the clusters below a node with d splits above it; b says whether the node splits, and is matched on.
-- A split stands above the clusters of both its sides; a node that does not split is one cluster of all its leaves, an asset one of itself.
unfoldable pub cut : ℕ → ℕ → ℕ → Tree → Bool → List Cluster
cut n k d (leaf a) b = record { above = d; assets = a ∷ [] } ∷ []
cut n k d (fork r l t) true = cut n k (suc d) l (splits n k l) ++ cut n k (suc d) t (splits n k t)
cut n k d (fork r l t) false = record { above = d; assets = leaves (fork r l t) } ∷ []

abbrev pub cut_at : List ℕ → ℕ → ℕ → ℕ → List Cluster
cut_at rows n k v = cut n k 0 (tree_at rows n v) (splits n k (tree_at rows n v))

-- the clusters of the whole tree, which sharing walks down from node 2n − 2
abbrev pub clusters : List ℕ → ℕ → ℕ → List Cluster
clusters rows n k = cut_at rows n k (2 * n - 2)

-- cluster j, and an empty one past the last
abbrev pub nowhere : Cluster
nowhere = record { above = 0; assets = [] }

abbrev pub cluster_at : List ℕ → ℕ → ℕ → ℕ → Cluster
cluster_at rows n k j = get_or (clusters rows n k) j nowhere
