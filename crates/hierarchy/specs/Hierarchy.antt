-- HCAA on a covariance of n assets: the tree, its leaf order and the weights. Definitions only.
use Rattle.std.specs.Prelude.{ℕ, ◌≡◌, List, [], ◌∷◌, ◌++◌, length, Float}
use Rattle.arithmetic.specs.Constants.{pz}
use Rattle.refusal.specs.Table.{Line, first, Outcome}
use Rattle.refusal.specs.declared.Refusal.TheVariants.{NoData}
use Rattle.lent.specs.Grid.{zeros}
use Rattle.lent.specs.Lent.{laid}
use Rattle.stats.specs.Covariance.{any_low}
use Rattle.distances.specs.declared.Measure.TheVariants.{Hcaa}
use Rattle.linkage.specs.declared.Distance.{Distance}
use Rattle.linkage.specs.declared.Linkage.{Linkage}
use Rattle.clusters.specs.Shares.{Shares, is_none, weights_in}
use Rattle.arranging.specs.Arranging.{correlations_of, tree_rows, tree_order}
use Rattle.sharing.specs.Allot.{down_shares}
-- the rule, the rooms and their lines are `admission`'s
pub use Rattle.rooms.specs.Rooms.{Room, Cleared}
pub use Rattle.admission.specs.Admission.{Rule, HierarchyCall}
unfoldable pub use Rattle.rooms.specs.Rooms.{room_lines, square_lines}
unfoldable pub use Rattle.admission.specs.Admission.{hierarchy_size_lines, hierarchy_shape_lines, expected_lines, rule_lines, hierarchy_judge_table}

-- ---- the steps

unfoldable pub hcaa_rows : Distance → Linkage → List Float → ℕ → List ℕ
unfolding tree_rows correlations_of
hcaa_rows d l cov n = tree_rows Hcaa d l (correlations_of cov n) n

-- the leaves under the last node, 2n − 2
unfoldable pub hcaa_order : Distance → Linkage → List Float → ℕ → List ℕ
unfolding tree_order correlations_of
hcaa_order d l cov n = tree_order Hcaa d l (correlations_of cov n) n

-- "HCAA recursion starts at node 2n − 2 with weight 1 and walks down", over the tree's own rows
unfoldable pub hcaa_shares : Rule → Distance → Linkage → List Float → ℕ → Shares
unfolding hcaa_rows
hcaa_shares q d l cov n = down_shares q.metric q.inputs cov (hcaa_rows d l cov n) n q.clusters

-- ---- refusals

-- "a variance ≤ 0 1; a side, or (not under equal weighting) a cut cluster, whose reciprocal variances sum to ≤ 0 1"
unfoldable pub hcaa_risk_lines : Rule → Distance → Linkage → List Float → ℕ → List Line
unfolding hcaa_shares
hcaa_risk_lines q d l cov n = (any_low cov n, NoData) ∷ (is_none (hcaa_shares q d l cov n), NoData) ∷ []

-- 16, 17; 6; then the risk
unfoldable pub share_lines : Rule → Distance → Linkage → List Float → ℕ → List Line
unfolding rule_lines hcaa_risk_lines
share_lines q d l cov n = rule_lines q n ++ hcaa_risk_lines q d l cov n

-- 9, 10, 11; 1; 3; Sharpe 3, 4; 16, 17; 6; then the risk
unfoldable pub hierarchy_table : HierarchyCall → Distance → Linkage → List Float → ℕ → ℕ → Room → List Line
unfolding hierarchy_judge_table hcaa_risk_lines
hierarchy_table q d l cov rows w room = hierarchy_judge_table q (length cov) rows w room ++ hcaa_risk_lines q.rule d l cov w

unfoldable pub hierarchy_outcome : HierarchyCall → Distance → Linkage → List Float → ℕ → ℕ → Room → Outcome
unfolding hierarchy_table
hierarchy_outcome q d l cov rows w room = first (hierarchy_table q d l cov rows w room)

-- ---- the answer: what an outcome leaves in each lent buffer

pub record HierarchyLaid (o : Outcome) (q : Rule) (d : Distance) (l : Linkage) (cov : List Float) (n : ℕ) (room : Room)
    (rows order : List ℕ) (weights scratch : List Float) : Type 0 where
  pub rows_are : rows ≡ laid 0 o room.rows (hcaa_rows d l cov n)
  pub order_is : order ≡ laid 0 o room.order (hcaa_order d l cov n)
  pub weights_are : weights ≡ laid pz o room.weights (weights_in (hcaa_shares q d l cov n))
  pub scratch_is : scratch ≡ zeros room.scratch

-- what `allocate_covariance` returns, and its buffers
pub record HierarchyAnswered (q : HierarchyCall) (d : Distance) (l : Linkage) (cov : List Float) (rows_in w : ℕ) (room : Room)
    (r : Outcome) (rows order : List ℕ) (weights scratch : List Float) : Type 0 where
  pub answer : r ≡ hierarchy_outcome q d l cov rows_in w room
  pub buffers : HierarchyLaid (hierarchy_outcome q d l cov rows_in w room) q.rule d l cov w room rows order weights scratch
