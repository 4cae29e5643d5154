-- What the private functions ask of one another and promise: may be skipped. Definitions only.
use Rattle.std.specs.Prelude.{◌≡◌, List, ℕ, ◌-◌, ◌*◌, ◌≤◌, ◌<◌, Float, Ok}
use Rattle.refusal.specs.Table.{first, and_then, Outcome}
use Rattle.lent.specs.Lent.{least_scratch}
use Rattle.linkage.specs.declared.Distance.{Distance}
use Rattle.parity.specs.Parity.{ParityRoom, hrp_risk_lines, ParityLaid}

-- the sizes of a call that is not refused for them
pub record ParitySized (len n : ℕ) (room : ParityRoom) : Type 0 where
  pub some : 0 < n
  pub few : n ≤ 64
  pub cells : len ≡ n * n
  pub for_rows : 2 * (n - 1) ≤ room.rows
  pub for_order : n ≤ room.order
  pub for_weights : n ≤ room.weights
  pub for_correlations : n * n ≤ room.correlations
  pub for_distances : n * n ≤ room.distances
  pub for_scratch : least_scratch ≤ room.scratch

pub record ParityReady (said : Outcome) (len n : ℕ) (room : ParityRoom) : Type 0 where
  pub sized : said ≡ Ok tt → ParitySized len n room

-- what the steps answer after that, and leave in the buffers where nothing is refused
pub record ParityWorked (said : Outcome) (d : Distance) (cov : List Float) (n : ℕ) (room : ParityRoom) (r : Outcome)
    (rows order : List ℕ) (weights correlations distances scratch : List Float) : Type 0 where
  pub answer : r ≡ and_then said (first (hrp_risk_lines d cov n))
  pub filled : r ≡ Ok tt → ParityLaid (Ok tt) d cov n room rows order weights correlations distances scratch
