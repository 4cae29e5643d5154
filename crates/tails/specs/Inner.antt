-- What the private functions ask of one another and promise: may be skipped. Definitions only.
use Rattle.std.specs.Prelude.{ℕ, ◌+◌, ◌*◌, ◌<◌, ◌≤◌, ◌≡◌, List, length, take, Float}
use Rattle.ordering.specs.Inner.{Part}
use Rattle.clusters.specs.Clusters.{nth}
use Rattle.tails.specs.Tail.{shortfall, conditional_drawdown}
use Rattle.tails.specs.Measures.{MeasureCall, shortfall_answer, drawdown_answer}
use Rattle.tails.specs.declared.Measure.{Measure}
use Rattle.tails.specs.declared.Measure.TheVariants.{Shortfall, Drawdown}
use Rattle.clusters.specs.Outcomes.{Risk}

-- rows of n returns, assets among the n, and a weight for each
pub record HeldRows (returns : List Float) (rows n : ℕ) (assets : List ℕ) (w : List Float) : Type 0 where
  pub few : rows ≤ 4096
  pub cells : length returns ≡ rows * n
  pub each : (k : ℕ) → k < length assets → nth assets k < n
  pub weights : length w ≡ length assets

-- the same of a call that was not refused, with the weights at the front of w
pub record TailReady (returns : List Float) (rows n : ℕ) (assets : List ℕ) (w : List Float) (q : Float) (room : ℕ) : Type 0 where
  pub held : HeldRows returns rows n assets (take (length assets) w)
  pub listed : length assets ≤ length w
  pub part : Part q
  pub roomy : rows + 1 ≤ room

-- a call by its parts
abbrev pub measure_call : List Float → ℕ → ℕ → List Float → ℕ → ℕ → List ℕ → Float → ℕ → MeasureCall
measure_call xs h c cov rows w assets q room =
    record { returns = xs; return_rows = h; return_columns = c; covariance = cov; covariance_rows = rows; covariance_columns = w; assets = assets; confidence = q; room = room }

-- either measure of a series of rows, and what the call for it answers
abbrev pub measure_number : Measure → ℕ → (ℕ → Float) → Float → Float
measure_number Shortfall rows f q = shortfall rows f q
measure_number Drawdown rows f q = conditional_drawdown rows f q

abbrev pub measure_answer : Measure → MeasureCall → Risk
measure_answer Shortfall m = shortfall_answer m
measure_answer Drawdown m = drawdown_answer m
