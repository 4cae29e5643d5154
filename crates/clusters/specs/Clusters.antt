-- Document 01, "Sharing out": the risk of a list of assets, under a covariance of n columns. Definitions only.
use Rattle.std.specs.Prelude.{ℕ, Bool, not, cond, List, [], ◌∷◌, ◌++◌, ltb, leb, eqb, length, get_or, Float, Ok, Err}
use Rattle.std.specs.Float.{nan, binary64}
use Rattle.std.specs.Float.Ieee.{mul, div, le}
use Rattle.arithmetic.specs.Constants.{pz, unit}
use Rattle.arithmetic.specs.Arithmetic.{max_of}
use Rattle.arithmetic.specs.Root.{root}
use Rattle.refusal.specs.Table.{Line, first, Outcome}
use Rattle.refusal.specs.Telling.{Telling, accepts, refuses}
use Rattle.refusal.specs.declared.Refusal.TheVariants.{NoData, DimensionMismatch, OverLimit, SliceLength, ShortBuffer, NoTree}
use Rattle.lent.specs.Grid.{cell, tab, sum_to, sum_rows, any_to}
use Rattle.lent.specs.Lent.{most_assets, over_limit, other_length, laid, answer_of, Answer}
use Rattle.clusters.specs.Outcomes.{Risk}

-- the k-th asset listed, and the variance of an asset
abbrev pub nth : List ℕ → ℕ → ℕ
nth assets k = get_or assets k 0

abbrev pub variance_at : List Float → ℕ → ℕ → Float
variance_at cov n a = cell cov n a a

-- "Inverse-variance weights: 1/v over their sum."
unfoldable pub recip : List Float → ℕ → List ℕ → ℕ → Float
recip cov n assets k = div binary64 unit (variance_at cov n (nth assets k))

unfoldable pub recip_sum : List Float → ℕ → List ℕ → Float
unfolding recip
recip_sum cov n assets = sum_to (length assets) (recip cov n assets)

unfoldable pub shares : List Float → ℕ → List ℕ → List Float
unfolding recip recip_sum
shares cov n assets = tab (length assets) (λ k. div binary64 (recip cov n assets k) (recip_sum cov n assets))

-- "Cluster variance: the double sum of (w_i·cov_ij)·w_j, i outer, in the order listed (the leaf order),"
unfoldable pub term : List Float → ℕ → List ℕ → List Float → ℕ → ℕ → Float
term cov n assets w i j = mul binary64 (mul binary64 (get_or w i nan) (cell cov n (nth assets i) (nth assets j))) (get_or w j nan)

-- "max with 0 (so NaN gives 0)."
unfoldable pub variance_of : List Float → ℕ → List ℕ → Float
unfolding term shares
variance_of cov n assets = max_of (sum_rows (length assets) (length assets) (term cov n assets (shares cov n assets))) pz

-- "a cluster's ratio is its weighted expectation over the root of its variance, 0 where that variance is 0"
unfoldable pub expectation : List Float → List Float → ℕ → List ℕ → Float
unfolding shares
expectation expected cov n assets = sum_to (length assets) (λ k. mul binary64 (get_or (shares cov n assets) k nan) (get_or expected (nth assets k) nan))

unfoldable pub ratio : Float → Float → Float
ratio mu v = cond (le v pz) pz (div binary64 mu (root v))

unfoldable pub ratio_of : List Float → List Float → ℕ → List ℕ → Float
unfolding expectation ratio variance_of
ratio_of expected cov n assets = ratio (expectation expected cov n assets) (variance_of cov n assets)

-- ---- refusals

-- 14: "an asset number above n − 1"
unfoldable pub outside : ℕ → List ℕ → Bool
outside n assets = any_to (length assets) (λ k. leb n (nth assets k))

abbrev pub outside_line : ℕ → List ℕ → Line
outside_line n assets = (outside n assets, NoTree)

-- 1: a variance ≤ 0 (a NaN variance isn't)
unfoldable pub any_listed_low : List Float → ℕ → List ℕ → Bool
any_listed_low cov n assets = any_to (length assets) (λ k. le (variance_at cov n (nth assets k)) pz)

-- a variance ≤ 0 is 1, reciprocals that sum to ≤ 0 are 1. "An empty cluster is 1": its reciprocals sum to +0
abbrev pub low_lines : List Float → ℕ → List ℕ → List Line
low_lines cov n assets = (any_listed_low cov n assets, NoData) ∷ (le (recip_sum cov n assets) pz, NoData) ∷ []

-- "then 14; then as in the allocators"
unfoldable pub risk_table : List Float → ℕ → List ℕ → List Line
unfolding outside any_listed_low recip_sum
risk_table cov n assets = outside_line n assets ∷ low_lines cov n assets

-- 9: the covariance, or a list of more than 64 assets; 10
unfoldable pub size_table : List Float → ℕ → ℕ → List ℕ → List Line
size_table cov rows w assets =
    (over_limit rows w, OverLimit) ∷ (ltb most_assets (length assets), OverLimit) ∷ (other_length (length cov) rows w, SliceLength) ∷ []

-- 3: "a matrix that must be square and isn't"
abbrev pub not_square : ℕ → ℕ → Line
not_square rows w = (not (eqb rows w), DimensionMismatch)

unfoldable pub shares_outcome : List Float → ℕ → ℕ → List ℕ → ℕ → Outcome
unfolding size_table risk_table
shares_outcome cov rows w assets room =
    first (size_table cov rows w assets ++ ((ltb room (length assets), ShortBuffer) ∷ not_square rows w ∷ risk_table cov w assets))

-- what `inverse_variance_weights` returns (one row of as many weights as assets are listed), and what its buffer of room entries holds
unfoldable pub shares_answer : List Float → ℕ → ℕ → List ℕ → ℕ → Answer
unfolding shares_outcome
shares_answer cov rows w assets room = answer_of (shares_outcome cov rows w assets room) 1 (length assets)

unfoldable pub shares_laid : List Float → ℕ → ℕ → List ℕ → ℕ → List Float
unfolding shares_outcome
shares_laid cov rows w assets room = laid pz (shares_outcome cov rows w assets room) room (shares cov w assets)

-- a number, or the refusal
abbrev pub risk_of : Outcome → Float → Risk
risk_of (Ok _) x = Ok x
risk_of (Err r) x = Err r

-- 0 and the number, or the refusal's number and values
abbrev pub risk_tells : Risk → Telling Float
risk_tells (Ok x) = accepts x
risk_tells (Err r) = refuses r

unfoldable pub variance_outcome : List Float → ℕ → ℕ → List ℕ → Outcome
unfolding size_table risk_table
variance_outcome cov rows w assets = first (size_table cov rows w assets ++ (not_square rows w ∷ risk_table cov w assets))

-- what `cluster_variance` returns
unfoldable pub variance_answer : List Float → ℕ → ℕ → List ℕ → Risk
unfolding variance_outcome variance_of
variance_answer cov rows w assets = risk_of (variance_outcome cov rows w assets) (variance_of cov w assets)

unfoldable pub sharpe_outcome : List Float → List Float → ℕ → ℕ → List ℕ → Outcome
unfolding size_table risk_table
sharpe_outcome expected cov rows w assets =
    first (size_table cov rows w assets ++ (not_square rows w ∷ (not (eqb (length expected) w), DimensionMismatch) ∷ risk_table cov w assets))

-- what `cluster_sharpe` returns: an expected return for each asset, else 3
unfoldable pub sharpe_answer : List Float → List Float → ℕ → ℕ → List ℕ → Risk
unfolding sharpe_outcome ratio_of
sharpe_answer expected cov rows w assets = risk_of (sharpe_outcome expected cov rows w assets) (ratio_of expected cov w assets)
