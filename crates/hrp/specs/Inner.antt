-- What the private functions ask of one another and promise: may be skipped. Definitions only.
use Rattle.std.specs.Prelude.{ℕ, ◌*◌, ◌-◌, ◌≡◌, Bool, true, false, ◌&&◌, List, ltb, length, take, Float, Some, Ok, None}
use Rattle.refusal.specs.Table.{Line, first, or_else, and_then, Outcome}
use Rattle.refusal.specs.declared.Refusal.TheVariants.{NoData}
use Rattle.lent.specs.Lent.{sizes, Shape}
use Rattle.resample.specs.Resample.{kept_rows}
use Rattle.inputs.specs.Inputs.{absent, rows_of_shape, no_returns, made_returns}
use Rattle.linkage.specs.declared.Distance.{Distance}
use Rattle.hrp.specs.Hrp.{HrpJob, estimated, shrunk_if}

-- ---- the covariance of returns, and of prices sampled by a step s: what the call says, and what then stands at the front of out

pub record HrpEstimated (cells : List Float) (rows n : ℕ) (shrink : Bool) (r : Outcome) (out : List Float) : Type 0 where
  pub answer : r ≡ or_else (ltb rows 2) NoData (Ok tt)
  pub front : r ≡ Ok tt → take (n * n) out ≡ shrunk_if shrink (estimated cells rows n) n

pub record HrpSampled (prices : List Float) (rows n s : ℕ) (shrink : Bool) (r : Outcome) (out : List Float) : Type 0 where
  pub answer : r ≡ or_else (no_returns prices rows n s) NoData (or_else (ltb (kept_rows rows s - 1) 2) NoData (Ok tt))
  pub front : r ≡ Ok tt → take (n * n) out ≡ shrunk_if shrink (estimated (made_returns prices rows n s) (kept_rows rows s - 1) n) n

-- ---- the covariance that a call makes where it gives none

-- what it is made from
pub record HrpSource : Type 0 where
  pub assets : ℕ
  pub prices : List Float
  pub prices_shape : Shape
  pub returns : List Float
  pub returns_shape : Shape
  pub covariance_shape : Shape
  pub step : ℕ
  pub use_shrinkage : Bool

-- the returns, and the sizes of the matrix that they come from; by the shape of the given ones
unfoldable pub gathered_rows : HrpSource → Shape → ℕ
gathered_rows q (Some s) = s.rows
gathered_rows q None = kept_rows (rows_of_shape q.prices_shape) q.step - 1

unfoldable pub gathered_cells : HrpSource → Shape → List Float
gathered_cells q (Some s) = q.returns
gathered_cells q None = made_returns q.prices (rows_of_shape q.prices_shape) q.assets q.step

unfoldable pub gather_sizes : HrpSource → Shape → List Line
gather_sizes q (Some s) = sizes (length q.returns) s.rows q.assets
gather_sizes q None = sizes (length q.prices) (rows_of_shape q.prices_shape) q.assets

unfoldable pub gathered_covariance : HrpSource → List Float
unfolding gathered_rows gathered_cells
gathered_covariance q = shrunk_if q.use_shrinkage (estimated (gathered_cells q q.returns_shape) (gathered_rows q q.returns_shape) q.assets) q.assets

-- the price rules, and under 2 return rows, where no covariance is given
unfoldable pub gather_outcome : HrpSource → Outcome
unfolding gathered_rows
gather_outcome q =
    or_else ((absent q.returns_shape && absent q.covariance_shape) && no_returns q.prices (rows_of_shape q.prices_shape) q.assets q.step) NoData
    (or_else (absent q.covariance_shape && ltb (gathered_rows q q.returns_shape) 2) NoData (Ok tt))

-- what is asked of a call that goes on, and what then stands at the front of out
pub record HrpFitting (said : Outcome) (q : HrpSource) : Type 0 where
  pub sized : said ≡ Ok tt → absent q.covariance_shape ≡ true → first (gather_sizes q q.returns_shape) ≡ Ok tt

pub record HrpGathered (said : Outcome) (q : HrpSource) (r : Outcome) (out : List Float) : Type 0 where
  pub answer : r ≡ and_then said (gather_outcome q)
  pub front : r ≡ Ok tt → absent q.covariance_shape ≡ true → take (q.assets * q.assets) out ≡ gathered_covariance q

-- whether a covariance is given to a call that is not refused so far
pub record HrpGiven (said : Outcome) (t : Shape) (r : Bool) : Type 0 where
  pub done : r ≡ true → said ≡ Ok tt
  pub given : r ≡ true → absent t ≡ false
  pub none : r ≡ false → said ≡ Ok tt → absent t ≡ true

-- a job by its parts
abbrev pub hrp_job : ℕ → List Float → Shape → List Float → Shape → List Float → Shape → List ℕ → Bool → Distance → HrpJob
hrp_job n p ps r rs c cs by shrink d = record {
  assets = n;
  prices = p;
  prices_shape = ps;
  returns = r;
  returns_shape = rs;
  covariance = c;
  covariance_shape = cs;
  resample_by = by;
  use_shrinkage = shrink;
  distance = d;
}
