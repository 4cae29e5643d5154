-- Document 01, "Sharing out": HCAA's recursion down the tree. Definitions only.
use Rattle.std.specs.Prelude.{ℕ, zero, suc, ◌+◌, ◌-◌, ◌*◌, Bool, true, false, List, [], ◌∷◌, leb, length, get_or, set, Float, Ok, Err}
use Rattle.std.specs.Float.{nan, binary64}
use Rattle.std.specs.Float.Ieee.{sub, mul}
use Rattle.arithmetic.specs.Constants.{unit}
use Rattle.arithmetic.specs.Arithmetic.{one_over}
use Rattle.lent.specs.Grid.{zeros}
use Rattle.clusters.specs.Clusters.{nth, shares, shares_outcome}
use Rattle.clusters.specs.Shares.{Shares, none, some, with_shares}
use Rattle.tree.specs.Tree.{Tree, leaf, fork, tree_at, leaves}
use Rattle.metrics.specs.declared.Metric.{Metric}
use Rattle.metrics.specs.declared.Metric.TheVariants.{MinimumVariance, MinimumStandardDeviation, SharpeRatio, EqualWeighting, ExpectedShortfall, ConditionalDrawdownRisk}
use Rattle.metrics.specs.declared.Split.{Split}
use Rattle.metrics.specs.Split.{Inputs, split_of}
use Rattle.metrics.specs.Outcomes.{Splitting}
use Rattle.refusal.specs.Table.{Outcome}

-- "Node n + row splits when row + k ≥ n"; an asset is never cut
abbrev pub splits : ℕ → ℕ → Tree → Bool
splits n k (leaf a) = true
splits n k (fork r l t) = leb n (r + k)

-- one weight to each of the assets listed
unfoldable pub spread_of : List ℕ → Float → List Float → List Float
spread_of [] w ws = ws
spread_of (a ∷ more) w ws = spread_of more w (set ws a w)

-- "a cut cluster gives 1/m each for equal weighting"
unfoldable pub equal_of : List ℕ → Float → List Float → List Float
unfolding spread_of
equal_of ms w ws = spread_of ms (mul binary64 w (one_over (length ms))) ws

-- the first k of the members get w times their parts
unfoldable pub deal_to : ℕ → List ℕ → List Float → Float → List Float → List Float
deal_to zero ms ps w ws = ws
deal_to (suc k) ms ps w ws = set (deal_to k ms ps w ws) (nth ms k) (mul binary64 w (get_or ps k nan))

abbrev pub if_done : Outcome → List Float → Shares
if_done (Ok _) ws = some ws
if_done (Err r) ws = none

-- "else inverse variance"
unfoldable pub varied_of : List Float → ℕ → List ℕ → Float → List Float → Shares
unfolding deal_to
varied_of cov n ms w ws = if_done (shares_outcome cov n n ms (length ms)) (deal_to (length ms) ms (shares cov n ms) w ws)

unfoldable pub inside_of : Metric → List Float → ℕ → List ℕ → Float → List Float → Shares
unfolding varied_of equal_of
inside_of MinimumVariance cov n ms w ws = varied_of cov n ms w ws
inside_of MinimumStandardDeviation cov n ms w ws = varied_of cov n ms w ws
inside_of SharpeRatio cov n ms w ws = varied_of cov n ms w ws
inside_of EqualWeighting cov n ms w ws = some (equal_of ms w ws)
inside_of ExpectedShortfall cov n ms w ws = varied_of cov n ms w ws
inside_of ConditionalDrawdownRisk cov n ms w ws = varied_of cov n ms w ws

abbrev pub onward : Splitting → (Split → Shares) → Shares
onward (Err r) f = none
onward (Ok s) f = f s

-- the weights once w has been shared out below a node; b says whether the node splits, and is matched on.
-- "Children get weight · factor and weight · (1 − factor). An uncut asset gets its node's weight"
unfoldable pub allotted : Metric → Inputs → List Float → ℕ → ℕ → Tree → Bool → Float → List Float → Shares
unfolding inside_of
allotted metric x cov n k (leaf a) b w ws = some (set ws a w)
allotted metric x cov n k (fork r l t) true w ws =
    onward (split_of metric x cov n (leaves l) (leaves t))
    (λ s. with_shares (allotted metric x cov n k l (splits n k l) (mul binary64 w s.factor) ws)
    (λ mid. allotted metric x cov n k t (splits n k t) (mul binary64 w (sub binary64 unit s.factor)) mid))
allotted metric x cov n k (fork r l t) false w ws = inside_of metric cov n (leaves (fork r l t)) w ws

abbrev pub allotted_at : Metric → Inputs → List Float → List ℕ → ℕ → ℕ → ℕ → Float → List Float → Shares
allotted_at metric x cov rows n k v w ws = allotted metric x cov n k (tree_at rows n v) (splits n k (tree_at rows n v)) w ws

-- "HCAA recursion starts at node 2n − 2 with weight 1 and walks down."
unfoldable pub down_shares : Metric → Inputs → List Float → List ℕ → ℕ → ℕ → Shares
unfolding allotted
down_shares metric x cov rows n k = allotted_at metric x cov rows n k (2 * n - 2) unit (zeros n)
