-- The tree of correlations and its leaf order, with which both allocators begin. Definitions only.
use Rattle.std.specs.Prelude.{ℕ, ◌-◌, ◌*◌, ◌≡◌, not, List, [], ◌∷◌, ◌++◌, ltb, eqb, length, Float}
use Rattle.arithmetic.specs.Constants.{pz}
use Rattle.refusal.specs.Table.{Line, first, Outcome}
use Rattle.refusal.specs.declared.Refusal.TheVariants.{NoData, DimensionMismatch, ShortBuffer}
use Rattle.lent.specs.Grid.{grid}
use Rattle.lent.specs.Lent.{sizes, laid}
use Rattle.stats.specs.Covariance.{correlation_cell}
use Rattle.distances.specs.Distances.{distance_cell, between_cell}
use Rattle.distances.specs.declared.Measure.{Measure}
use Rattle.tree.specs.Tree.{leaves_of}
use Rattle.linkage.specs.Merge.{merge_rows}
use Rattle.linkage.specs.declared.Distance.{Distance}
use Rattle.linkage.specs.declared.Distance.TheVariants.{Correlation, DistanceOfDistances}
use Rattle.linkage.specs.declared.Linkage.{Linkage}

-- ---- the steps

-- "Correlation c = cov / (root of one variance · root of the other)", of every two of n assets
unfoldable pub correlations_of : List Float → ℕ → List Float
correlations_of cov n = grid n n (correlation_cell cov n)

-- "HRP distance: ..", "HCAA: ..", of every two
unfoldable pub distances_in : Measure → List Float → ℕ → List Float
distances_in of corr n = grid n n (distance_cell of corr n)

-- what the tree is built on: the distances, or the distances of these
unfoldable pub tree_distances : Distance → List Float → ℕ → List Float
tree_distances Correlation d n = d
tree_distances DistanceOfDistances d n = grid n n (between_cell d n)

-- the merge rows of correlations
unfoldable pub tree_rows : Measure → Distance → Linkage → List Float → ℕ → List ℕ
unfolding distances_in tree_distances
tree_rows of d l corr n = merge_rows l n (tree_distances d (distances_in of corr n) n)

-- the leaves under the last node, 2n − 2
unfoldable pub tree_order : Measure → Distance → Linkage → List Float → ℕ → List ℕ
unfolding tree_rows
tree_order of d l corr n = leaves_of (tree_rows of d l corr n) n (2 * n - 2)

-- ---- refusals

-- how many entries each lent buffer has
pub record TreeRoom : Type 0 where
  pub rows : ℕ
  pub order : ℕ
  pub distances : ℕ

-- 9, 10; 11: "Answer buffers need 2(n − 1) numbers for rows, n for order, .. elsewhere the answer's cells"; 3; "Leaf order ..: n = 0 is 1"
unfoldable pub arrange_table : ℕ → ℕ → ℕ → TreeRoom → List Line
arrange_table len rows w room =
    sizes len rows w
    ++ ((ltb room.rows (2 * (w - 1)), ShortBuffer)
    ∷ (ltb room.order w, ShortBuffer)
    ∷ (ltb room.distances (w * w), ShortBuffer)
    ∷ (not (eqb rows w), DimensionMismatch)
    ∷ (eqb w 0, NoData)
    ∷ [])

unfoldable pub arrange_outcome : List Float → ℕ → ℕ → TreeRoom → Outcome
unfolding arrange_table
arrange_outcome corr rows w room = first (arrange_table (length corr) rows w room)

-- ---- the answer: what `arrange` returns, and its buffers

pub record Arranged (of : Measure) (d : Distance) (l : Linkage) (corr : List Float) (rows_in w : ℕ) (room : TreeRoom) (r : Outcome) (rows order : List ℕ) (distances : List Float) : Type 0 where
  pub answer : r ≡ arrange_outcome corr rows_in w room
  pub rows_are : rows ≡ laid 0 (arrange_outcome corr rows_in w room) room.rows (tree_rows of d l corr w)
  pub order_is : order ≡ laid 0 (arrange_outcome corr rows_in w room) room.order (tree_order of d l corr w)
  pub distances_are : distances ≡ laid pz (arrange_outcome corr rows_in w room) room.distances (distances_in of corr w)
