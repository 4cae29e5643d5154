-- What the private functions ask of one another and promise: may be skipped. Definitions only.
use Rattle.std.specs.Prelude.{ℕ, ◌<◌, ◌≡◌, List, get_or, Float}
use Rattle.std.specs.Float.{nan, binary64}
use Rattle.std.specs.Float.Ieee.{add, sub}
use Rattle.arithmetic.specs.Constants.{pz}
use Rattle.arithmetic.specs.Root.{root}
use Rattle.lent.specs.Grid.{cell, sum_to}
use Rattle.distances.specs.Distances.{off_diagonal, square}

-- the sum of columns i and j over the first k rows
unfoldable pub sum_of : List Float → ℕ → ℕ → ℕ → ℕ → Float
sum_of d n i k j = sum_to k (λ q. square (sub binary64 (off_diagonal d n q i) (off_diagonal d n q j)))

-- that sum and the square of x less row k's cell, were it the diagonal's too
unfoldable pub with_square : List Float → ℕ → ℕ → ℕ → Float → ℕ → Float
unfolding sum_of
with_square d n i k x j = add binary64 (sum_of d n i k j) (square (sub binary64 x (cell d n k j)))

-- r is what cell (i, j) is to be: from across the diagonal, +0, or from its sum
pub record Picked (r : Float) (sums out : List Float) (n i j : ℕ) : Type 0 where
  pub left : j < i → r ≡ cell out n j i
  pub on : i ≡ j → r ≡ pz
  pub right : i < j → r ≡ root (get_or sums j nan)
