-- What the private functions ask of one another and promise: may be skipped. Definitions only.
use Rattle.std.specs.Prelude.{ℕ, ◌<◌, ◌≤◌, ◌*◌, ◌≡◌, Bool, true, false, List, length, Float}
use Rattle.std.specs.Prelude.{Ok, Err}
use Rattle.refusal.specs.Table.{Outcome}
use Rattle.lent.specs.Lent.{most_assets}
use Rattle.clusters.specs.Clusters.{nth}
use Rattle.clusters.specs.Shares.{Shares, none, some}

-- assets of a square matrix of n columns
pub record ListedAssets (cov : List Float) (n : ℕ) (assets : List ℕ) : Type 0 where
  pub cells : length cov ≡ n * n
  pub few : length assets ≤ most_assets
  pub each : (k : ℕ) → k < length assets → nth assets k < n

-- for the allocators above: an answer and a buffer as what sharing gives
unfoldable pub told : Bool → List Float → Shares
told true ws = some ws
told false ws = none

-- the same of a call that is done or refused
unfoldable pub shared : Outcome → List Float → Shares
shared (Ok _) ws = some ws
shared (Err r) ws = none
