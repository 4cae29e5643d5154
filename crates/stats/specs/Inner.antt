-- What the private functions ask of one another and promise: may be skipped. Definitions only.
use Rattle.std.specs.Prelude.{ℕ, ◌*◌, ◌-◌, ◌<◌, ◌≤◌, ◌≡◌, List, length, get_or, Float}
use Rattle.std.specs.Float.{nan, binary64}
use Rattle.std.specs.Float.Ieee.{sub, mul, div}
use Rattle.arithmetic.specs.Arithmetic.{count_of}
use Rattle.lent.specs.Grid.{cell, sum_to}

-- a matrix of `rows` rows and w columns that is not refused for its sizes
pub record Whole (xs : List Float) (rows w : ℕ) : Type 0 where
  pub cells : length xs ≡ rows * w
  pub wide : w ≤ 64

-- the first n entries of m are f 0, f 1, .., f (n - 1): worked out once and kept
pub record Kept (m : List Float) (n : ℕ) (f : ℕ → Float) : Type 0 where
  pub entry : (k : ℕ) → k < n → get_or m k nan ≡ f k

-- the sum of the products of columns i and j over the first k rows, their means being in m
unfoldable pub products_of : List Float → ℕ → List Float → ℕ → ℕ → ℕ → Float
products_of xs w m i k j = sum_to k (λ r. mul binary64 (sub binary64 (cell xs w r i) (get_or m i nan)) (sub binary64 (cell xs w r j) (get_or m j nan)))

-- v is what cell (i, j) is to be: from across the diagonal, or from its sum
pub record Taken (v : Float) (sums : List Float) (rows w i j : ℕ) (out : List Float) : Type 0 where
  pub left : j < i → v ≡ cell out w j i
  pub right : i ≤ j → v ≡ div binary64 (get_or sums j nan) (count_of (rows - 1))
