-- Demand 3 of the mission, for what `sharing` shares out by equal weighting, and for every accepted call of `sharing::allocate_down_tree`.
-- Assumes nothing.
use mathlib.Core.Path.{◌≡◌, sym, ap, ◌∙◌}
use mathlib.Core.Bool.{true}
use mathlib.Core.List.{List}
use Prim.Native.Nat.{ℕ, ◌≤◌}
use lib.Ieee.{Float}
use Rattle.tree.specs.Rows.{is_tree}
use Rattle.clusters.specs.Shares.{some, weights_in}
use Rattle.metrics.specs.declared.Metric.{Metric}
use Rattle.metrics.specs.declared.Metric.TheVariants.{EqualWeighting}
use Rattle.sharing.specs.Split.{Inputs}
use Rattle.sharing.specs.Allot.{down_shares}
use Rattle.sharing.specs.Down.{DownCall, down_outcome}
use Rattle.sharing.proofs.Judged.{down_accepted}
use Rattle.equal.specs.Equal.{EqualShares}
use Rattle.equal.proofs.Equal.{equal_shares}
use Rattle.std.specs.Prelude.{Ok}

pub equal_shared : (x : Inputs) (cov : List Float) (n k : ℕ) (rows : List ℕ) → 1 ≤ n → n ≤ 64 → is_tree rows n ≡ true → 1 ≤ k → k ≤ n
    → (ws : List Float) → down_shares EqualWeighting x cov rows n k ≡ some ws → EqualShares n k rows ws
equal_shared x cov n k rows some_asset limit tree least cut ws e = equal_shares x cov n k rows some_asset limit tree least cut ws e

-- the weights that the call leaves at the front of its buffer
pub equal_call : (q : DownCall) (room scratch : ℕ) → q.metric ≡ EqualWeighting → down_outcome q room scratch ≡ Ok tt
    → EqualShares q.assets q.clusters q.rows (weights_in (down_shares q.metric q.inputs q.covariance q.rows q.assets q.clusters))
equal_call q room scratch m e =
    let a = down_accepted q room scratch e in
    let p = a.right in
    equal_shared q.inputs q.covariance q.assets q.clusters q.rows p.some p.most p.tree p.least p.cut _
    (ap (λ (metric : Metric). down_shares metric q.inputs q.covariance q.rows q.assets q.clusters) (sym m) ∙ a.weights)
