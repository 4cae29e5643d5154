-- HRP on a covariance of n assets: the tree, its leaf order, both seriated matrices and the weights. Definitions only.
use Rattle.std.specs.Prelude.{ℕ, ◌≡◌, List, [], ◌∷◌, ◌++◌, length, Float}
use Rattle.arithmetic.specs.Constants.{pz}
use Rattle.refusal.specs.Table.{Line, first, Outcome}
use Rattle.refusal.specs.declared.Refusal.TheVariants.{NoData}
use Rattle.lent.specs.Grid.{grid, zeros}
use Rattle.lent.specs.Lent.{laid}
use Rattle.stats.specs.Covariance.{any_low}
use Rattle.distances.specs.declared.Measure.TheVariants.{Hrp}
use Rattle.tree.specs.Order.{seriated_cell}
use Rattle.linkage.specs.declared.Distance.{Distance}
use Rattle.linkage.specs.declared.Linkage.TheVariants.{Single}
use Rattle.arranging.specs.Arranging.{distances_in, tree_rows, tree_order}
use Rattle.clusters.specs.Shares.{Shares, is_none, weights_in}
use Rattle.bisection.specs.Bisection.{bisection_shares}
-- the correlations, and what the tree is built on, are of the crate `arranging`; the rooms and their lines of `rooms`
unfoldable pub use Rattle.arranging.specs.Arranging.{correlations_of, tree_distances}
pub use Rattle.rooms.specs.Rooms.{ParityRoom, ParityCleared}
unfoldable pub use Rattle.rooms.specs.Rooms.{room_lines, parity_room_lines, square_lines, parity_judge_table}

-- ---- the steps

unfoldable pub hrp_distances : List Float → ℕ → List Float
hrp_distances cov n = distances_in Hrp (correlations_of cov n) n

unfoldable pub hrp_rows : Distance → List Float → ℕ → List ℕ
hrp_rows d cov n = tree_rows Hrp d Single (correlations_of cov n) n

unfoldable pub hrp_order : Distance → List Float → ℕ → List ℕ
hrp_order d cov n = tree_order Hrp d Single (correlations_of cov n) n

unfoldable pub hrp_shares : Distance → List Float → ℕ → Shares
unfolding hrp_order
hrp_shares d cov n = bisection_shares cov n (hrp_order d cov n)

unfoldable pub seriated_in : List ℕ → List Float → ℕ → List Float
seriated_in order m n = grid n n (seriated_cell m n order)

-- ---- refusals

-- "variance 1; side 1"
unfoldable pub hrp_risk_lines : Distance → List Float → ℕ → List Line
unfolding hrp_shares
hrp_risk_lines d cov n = (any_low cov n, NoData) ∷ (is_none (hrp_shares d cov n), NoData) ∷ []

-- 9, 10, 11; no assets 1; covariance size 3; then the risk
unfoldable pub parity_table : Distance → List Float → ℕ → ℕ → ParityRoom → List Line
unfolding hrp_risk_lines
parity_table d cov rows w room = parity_judge_table (length cov) rows w room ++ hrp_risk_lines d cov w

unfoldable pub parity_outcome : Distance → List Float → ℕ → ℕ → ParityRoom → Outcome
unfolding parity_table
parity_outcome d cov rows w room = first (parity_table d cov rows w room)

-- ---- the answer: what an outcome leaves in each lent buffer

pub record ParityLaid (o : Outcome) (d : Distance) (cov : List Float) (n : ℕ) (room : ParityRoom)
    (rows order : List ℕ) (weights correlations distances scratch : List Float) : Type 0 where
  pub rows_are : rows ≡ laid 0 o room.rows (hrp_rows d cov n)
  pub order_is : order ≡ laid 0 o room.order (hrp_order d cov n)
  pub weights_are : weights ≡ laid pz o room.weights (weights_in (hrp_shares d cov n))
  pub correlations_are : correlations ≡ laid pz o room.correlations (seriated_in (hrp_order d cov n) (correlations_of cov n) n)
  pub distances_are : distances ≡ laid pz o room.distances (seriated_in (hrp_order d cov n) (hrp_distances cov n) n)
  pub scratch_is : scratch ≡ zeros room.scratch

-- what `allocate_covariance` returns, and its buffers
pub record ParityAnswered (d : Distance) (cov : List Float) (rows_in w : ℕ) (room : ParityRoom) (r : Outcome)
    (rows order : List ℕ) (weights correlations distances scratch : List Float) : Type 0 where
  pub answer : r ≡ parity_outcome d cov rows_in w room
  pub buffers : ParityLaid (parity_outcome d cov rows_in w room) d cov w room rows order weights correlations distances scratch
