-- Document 01, "Sharing out": HRP halves the leaf order. Definitions only.
use Rattle.std.specs.Prelude.{ℕ, zero, suc, ◌/◌, not, cond, List, [], ◌∷◌, ◌++◌, ltb, eqb, length, get_or, set, take, drop, Float, Ok, Err}
use Rattle.std.specs.Float.{nan, binary64}
use Rattle.std.specs.Float.Ieee.{sub, mul, div, lt}
use Rattle.arithmetic.specs.Constants.{pz, unit}
use Rattle.refusal.specs.Table.{Line, first, Outcome}
use Rattle.refusal.specs.declared.Refusal.TheVariants.{NoData, DimensionMismatch, ShortBuffer, NoTree}
use Rattle.lent.specs.Grid.{zeros, tab, sum_to}
use Rattle.lent.specs.Lent.{sizes, laid, answer_of, Answer}
use Rattle.tree.specs.Rows.{is_order}
use Rattle.clusters.specs.Clusters.{variance_answer}
use Rattle.clusters.specs.Shares.{Shares, some, with_shares, with_risk, is_none, weights_in}
use Rattle.clusters.specs.Outcomes.{Risk}
-- "Factor 1 − l/(l + r + EPSILON), not clamped."
unfoldable pub use Rattle.clusters.specs.Shares.{factor_of}

-- "HRP halves the leaf order, left part of length n/2 rounded down, and goes on with the second half as the part that starts in its middle."
abbrev pub middle : List ℕ → ℕ
middle part = length part / 2

-- the factor of two sides, where both have a variance
abbrev pub factor_of_both : Risk → Risk → Risk
factor_of_both (Err k) r = Err k
factor_of_both (Ok x) (Err k) = Err k
factor_of_both (Ok x) (Ok y) = Ok (factor_of x y)

unfoldable pub sides_factor : List Float → ℕ → List ℕ → Risk
sides_factor cov n part = factor_of_both (variance_answer cov n n (take (middle part) part)) (variance_answer cov n n (drop (middle part) part))

-- a weight shared out over a part of the leaf order: an asset alone takes it; else the two halves take it times the factor and times 1 − the factor.
-- The first argument bounds the depth.
unfoldable pub halved : ℕ → List Float → ℕ → List ℕ → Float → List Float → Shares
unfolding sides_factor
halved zero cov n part w ws = some ws
halved (suc d) cov n [] w ws = some ws
halved (suc d) cov n (a ∷ []) w ws = some (set ws a w)
halved (suc d) cov n (a ∷ b ∷ more) w ws =
    let part = a ∷ b ∷ more in
    with_risk (sides_factor cov n part)
    (λ f. with_shares (halved d cov n (take (middle part) part) (mul binary64 w f) ws)
    (λ mid. halved d cov n (drop (middle part) part) (mul binary64 w (sub binary64 unit f)) mid))

unfoldable pub bisected : List Float → ℕ → List ℕ → Float → List Float → Shares
unfolding halved
bisected cov n part w ws = halved (length part) cov n part w ws

-- "At the end divide by the sum where that is > 0."
unfoldable pub normal : List Float → List Float
normal ws = cond (lt pz (sum_to (length ws) (λ k. get_or ws k nan)))
    (tab (length ws) (λ k. div binary64 (get_or ws k nan) (sum_to (length ws) (λ j. get_or ws j nan))))
    ws

-- the weights of n assets in a leaf order
unfoldable pub bisection_shares : List Float → ℕ → List ℕ → Shares
unfolding bisected normal
bisection_shares cov n order = with_shares (bisected cov n order unit (zeros n)) (λ ws. some (normal ws))

-- 9, 10, 11, 3, then 14, then n = 0 is 1
unfoldable pub bisection_given : List Float → ℕ → ℕ → List ℕ → ℕ → List Line
bisection_given cov rows w order room =
    sizes (length cov) rows w
    ++ ((ltb room w, ShortBuffer) ∷ (not (eqb rows w), DimensionMismatch) ∷ (not (is_order order w), NoTree) ∷ (eqb w 0, NoData) ∷ [])

-- then "side 1"
unfoldable pub bisection_table : List Float → ℕ → ℕ → List ℕ → ℕ → List Line
unfolding bisection_given bisection_shares is_none
bisection_table cov rows w order room = bisection_given cov rows w order room ++ ((is_none (bisection_shares cov w order), NoData) ∷ [])

unfoldable pub bisection_outcome : List Float → ℕ → ℕ → List ℕ → ℕ → Outcome
unfolding bisection_table
bisection_outcome cov rows w order room = first (bisection_table cov rows w order room)

-- what `recursive_bisection_min_var` returns (one row of a weight for each asset), and what its buffer of room entries holds
unfoldable pub bisection_answer : List Float → ℕ → ℕ → List ℕ → ℕ → Answer
unfolding bisection_outcome
bisection_answer cov rows w order room = answer_of (bisection_outcome cov rows w order room) 1 w

unfoldable pub bisection_weights : List Float → ℕ → ℕ → List ℕ → ℕ → List Float
unfolding bisection_outcome weights_in
bisection_weights cov rows w order room = laid pz (bisection_outcome cov rows w order room) room (weights_in (bisection_shares cov w order))
