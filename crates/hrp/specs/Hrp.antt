-- HRP: what `allocate` answers, and what it leaves in each lent buffer, for every input. Document 01, "Order", HRP. Definitions only.
use Rattle.std.specs.Prelude.{ℕ, ◌-◌, ◌≡◌, Bool, true, false, ◌&&◌, List, ◌∷◌, ◌++◌, ltb, length, Float, Some, None}
use Rattle.refusal.specs.Table.{Line, first, Outcome}
use Rattle.refusal.specs.declared.Refusal.TheVariants.{NoData, DimensionMismatch}
use Rattle.lent.specs.Grid.{grid}
use Rattle.resample.specs.Resample.{step_of, kept_rows}
use Rattle.inputs.specs.Inputs.{absent, rows_of_shape, other_size, matrix_lines, no_returns, made_returns}
use Rattle.stats.specs.Covariance.{covariance_cell, shrunk_cell}
use Rattle.linkage.specs.declared.Distance.{Distance}
use Rattle.rooms.specs.Rooms.{ParityRoom, parity_room_lines, shape_lines}
use Rattle.parity.specs.Parity.{hrp_risk_lines, ParityLaid}
use Rattle.lent.specs.Lent.{Shape}

-- ---- the call

pub record HrpJob : Type 0 where
  pub assets : ℕ
  pub prices : List Float
  pub prices_shape : Shape
  pub returns : List Float
  pub returns_shape : Shape
  pub covariance : List Float
  pub covariance_shape : Shape
  pub resample_by : List ℕ
  pub use_shrinkage : Bool
  pub distance : Distance

-- ---- the covariance

-- prices are looked at "only without covariance", and without returns
unfoldable pub prices_alone : HrpJob → Bool
prices_alone j = absent j.returns_shape && absent j.covariance_shape

-- the returns: the given ones, else those made from prices; by the shape of the given ones
unfoldable pub hrp_return_rows : HrpJob → Shape → ℕ
hrp_return_rows j (Some s) = s.rows
hrp_return_rows j None = kept_rows (rows_of_shape j.prices_shape) (step_of j.resample_by) - 1

unfoldable pub hrp_return_cells : HrpJob → Shape → List Float
hrp_return_cells j (Some s) = j.returns
hrp_return_cells j None = made_returns j.prices (rows_of_shape j.prices_shape) j.assets (step_of j.resample_by)

unfoldable pub estimated : List Float → ℕ → ℕ → List Float
estimated xs rows n = grid n n (covariance_cell xs rows n)

-- "HRP shrinkage multiplies the off-diagonal of an estimated covariance by 1.0 − 0.1."
unfoldable pub shrunk_if : Bool → List Float → ℕ → List Float
shrunk_if true cov n = grid n n (shrunk_cell cov n)
shrunk_if false cov n = cov

-- the given covariance, else that of the returns; by the shape of the given one
unfoldable pub hrp_covariance_by : HrpJob → Shape → List Float
unfolding hrp_return_rows hrp_return_cells estimated shrunk_if
hrp_covariance_by j (Some s) = j.covariance
hrp_covariance_by j None =
    shrunk_if j.use_shrinkage (estimated (hrp_return_cells j j.returns_shape) (hrp_return_rows j j.returns_shape) j.assets) j.assets

unfoldable pub hrp_covariance : HrpJob → List Float
unfolding hrp_covariance_by
hrp_covariance j = hrp_covariance_by j j.covariance_shape

-- ---- refusals

-- "no matrix 1; no assets 1; given returns' columns 3; else, only without covariance, prices' columns 3"
unfoldable pub hrp_shape_lines : HrpJob → List Line
hrp_shape_lines j = shape_lines j.assets j.prices_shape j.returns_shape j.covariance_shape

-- "and then the price rules; under 2 return rows without covariance 1; covariance size 3; variance 1; side 1."
unfoldable pub number_lines : HrpJob → List Line
unfolding prices_alone hrp_return_rows hrp_covariance
number_lines j =
    (prices_alone j && no_returns j.prices (rows_of_shape j.prices_shape) j.assets (step_of j.resample_by), NoData)
    ∷ (absent j.covariance_shape && ltb (hrp_return_rows j j.returns_shape) 2, NoData)
    ∷ (other_size j.covariance_shape j.assets, DimensionMismatch)
    ∷ hrp_risk_lines j.distance (hrp_covariance j) j.assets

unfoldable pub hrp_table : HrpJob → ParityRoom → List Line
unfolding hrp_shape_lines number_lines
hrp_table j room =
    matrix_lines j.assets j.prices_shape (length j.prices) j.returns_shape (length j.returns) j.covariance_shape (length j.covariance)
    ++ (parity_room_lines j.assets room ++ (hrp_shape_lines j ++ number_lines j))

unfoldable pub hrp_outcome : HrpJob → ParityRoom → Outcome
unfolding hrp_table
hrp_outcome j room = first (hrp_table j room)

-- ---- the answer, and every lent buffer: `ParityLaid` of the crate parity says what an outcome leaves in each

pub record HrpAllocated (j : HrpJob) (room : ParityRoom) (r : Outcome)
    (rows order : List ℕ) (weights correlations distances scratch : List Float) : Type 0 where
  pub answer : r ≡ hrp_outcome j room
  pub buffers : ParityLaid (hrp_outcome j room) j.distance (hrp_covariance j) j.assets room rows order weights correlations distances scratch
