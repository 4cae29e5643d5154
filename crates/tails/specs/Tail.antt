-- Document 02, request 1: the two tail-risk measures of a portfolio's rows, as `hcaa.rs` has them. Definitions only.
use Rattle.std.specs.Prelude.{ℕ, zero, suc, ◌+◌, Bool, cond, List, eqb, length, get_or, Float}
use Rattle.std.specs.Float.{nan, binary64}
use Rattle.std.specs.Float.Ieee.{add, sub, mul, div, neg, lt, le}
use Rattle.arithmetic.specs.Constants.{pz, unit}
use Rattle.arithmetic.specs.Arithmetic.{count_of}
use Rattle.lent.specs.Grid.{cell, tab, sum_to}
use Rattle.ordering.specs.Nearest.{quantile}
use Rattle.clusters.specs.Clusters.{nth, shares}

-- ---- the portfolio's return of each row: the return of each asset listed times its weight, summed in the order listed

unfoldable pub gain : List Float → ℕ → List ℕ → List Float → ℕ → ℕ → Float
gain returns n assets w r k = mul binary64 (cell returns n r (nth assets k)) (get_or w k nan)

unfoldable pub row_return : List Float → ℕ → List ℕ → List Float → ℕ → Float
unfolding gain
row_return returns n assets w r = sum_to (length assets) (gain returns n assets w r)

-- ---- a tail: the entries among f 0, .., f (n - 1) that pass p; "sums run first to last from +0", in the list's own order

unfoldable pub tail_sum : (Float → Bool) → ℕ → (ℕ → Float) → Float
tail_sum p zero f = pz
tail_sum p (suc n) f = let s = tail_sum p n f in cond (p (f n)) (add binary64 s (f n)) s

unfoldable pub tail_count : (Float → Bool) → ℕ → (ℕ → Float) → ℕ
tail_count p zero f = 0
tail_count p (suc n) f = let c = tail_count p n f in cond (p (f n)) (c + 1) c

-- a sum over the number of its terms; 0 where the tail is empty
unfoldable pub mean : Float → ℕ → Float
mean s c = cond (eqb c 0) pz (div binary64 s (count_of c))

-- ---- expected shortfall: minus the mean of the returns at or below their quantile at the confidence

unfoldable pub shortfall : ℕ → (ℕ → Float) → Float → Float
unfolding tail_sum tail_count mean
shortfall rows f q =
    let p : Float → Bool = λ x. le x (quantile q (tab rows f)) in
    mean (neg (tail_sum p rows f)) (tail_count p rows f)

-- ---- conditional drawdown: the mean of the drawdowns at or above their quantile; "Drawdowns use 1 − confidence and count the starting wealth"

-- wealth after r rows, 1 at the start
unfoldable pub wealth : (ℕ → Float) → ℕ → Float
wealth f zero = unit
wealth f (suc r) = mul binary64 (wealth f r) (add binary64 unit (f r))

unfoldable pub higher : Float → Float → Float
higher p v = cond (lt p v) v p

-- the highest wealth so far
unfoldable pub peak : (ℕ → Float) → ℕ → Float
unfolding wealth higher
peak f zero = unit
peak f (suc r) = higher (peak f r) (wealth f (suc r))

-- how far v has fallen from p, as a part of p; 0 where p isn't above 0
unfoldable pub fall : Float → Float → Float
fall p v = cond (lt pz p) (div binary64 (sub binary64 p v) p) pz

unfoldable pub drawdown : (ℕ → Float) → ℕ → Float
unfolding peak wealth fall
drawdown f r = fall (peak f r) (wealth f r)

unfoldable pub conditional_drawdown : ℕ → (ℕ → Float) → Float → Float
unfolding tail_sum tail_count mean drawdown
conditional_drawdown rows f q =
    let p : Float → Bool = λ x. le (quantile (sub binary64 unit q) (tab (rows + 1) (drawdown f))) x in
    mean (tail_sum p (rows + 1) (drawdown f)) (tail_count p (rows + 1) (drawdown f))

-- ---- of the assets listed, weighed by inverse variance

unfoldable pub shortfall_of : List Float → ℕ → List Float → ℕ → List ℕ → Float → Float
unfolding row_return shortfall
shortfall_of returns rows cov n assets q = shortfall rows (row_return returns n assets (shares cov n assets)) q

unfoldable pub drawdown_of : List Float → ℕ → List Float → ℕ → List ℕ → Float → Float
unfolding row_return conditional_drawdown
drawdown_of returns rows cov n assets q = conditional_drawdown rows (row_return returns n assets (shares cov n assets)) q
