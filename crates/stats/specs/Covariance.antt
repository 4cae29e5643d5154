-- Document 01, "From prices to distances": covariance, shrinkage and correlation. Definitions only.
use Rattle.std.specs.Prelude.{ℕ, ◌*◌, ◌-◌, min, max, Bool, cond, List, [], ◌∷◌, ◌++◌, ltb, eqb, length, Float}
use Rattle.std.specs.Float.{binary64}
use Rattle.std.specs.Float.Ieee.{of_bits, sub, mul, div, le}
use Rattle.arithmetic.specs.Constants.{pz, unit}
use Rattle.arithmetic.specs.Arithmetic.{count_of}
use Rattle.arithmetic.specs.Root.{root}
use Rattle.refusal.specs.Table.{Line, first, Outcome}
use Rattle.refusal.specs.declared.Refusal.TheVariants.{NoData, DimensionMismatch, ShortBuffer}
use Rattle.lent.specs.Grid.{cell, grid, sum_to, any_to}
use Rattle.lent.specs.Lent.{sizes, squares, laid, answer_of, Answer}

-- "Covariance: means first,"
unfoldable pub mean_of : List Float → ℕ → ℕ → ℕ → Float
mean_of xs rows w c = div binary64 (sum_to rows (λ r. cell xs w r c)) (count_of rows)

-- "then sums of products over rows, divided by rows − 1,": of columns i and j, whose means are a and b
unfoldable pub spread : List Float → ℕ → ℕ → Float → Float → ℕ → ℕ → Float
spread xs rows w a b i j =
    div binary64 (sum_to rows (λ r. mul binary64 (sub binary64 (cell xs w r i) a) (sub binary64 (cell xs w r j) b))) (count_of (rows - 1))

unfoldable pub covariance_of : List Float → ℕ → ℕ → ℕ → ℕ → Float
unfolding mean_of spread
covariance_of xs rows w i j = spread xs rows w (mean_of xs rows w i) (mean_of xs rows w j) i j

-- "for i ≤ j, copied across"
unfoldable pub covariance_cell : List Float → ℕ → ℕ → ℕ → ℕ → Float
unfolding covariance_of
covariance_cell xs rows w i j = covariance_of xs rows w (min i j) (max i j)

unfoldable pub covariance_table : ℕ → ℕ → ℕ → ℕ → List Line
covariance_table len rows w room = sizes len rows w ++ ((ltb room (w * w), ShortBuffer) ∷ (ltb rows 2, NoData) ∷ [])

unfoldable pub covariance_outcome : List Float → ℕ → ℕ → ℕ → Outcome
covariance_outcome xs rows w room = first (covariance_table (length xs) rows w room)

-- what `covariance` returns, and what its buffer of room entries holds
unfoldable pub covariance_answer : List Float → ℕ → ℕ → ℕ → Answer
covariance_answer xs rows w room = answer_of (covariance_outcome xs rows w room) w w

unfoldable pub covariances : List Float → ℕ → ℕ → ℕ → List Float
covariances xs rows w room = laid pz (covariance_outcome xs rows w room) room (grid w w (covariance_cell xs rows w))

-- 0.1
abbrev pub tenth : Float
tenth = of_bits binary64 0x3fb9_9999_9999_999a

-- "HRP shrinkage multiplies the off-diagonal of an estimated covariance by 1.0 − 0.1."
unfoldable pub shrunk_cell : List Float → ℕ → ℕ → ℕ → Float
shrunk_cell cov n i j = cond (eqb i j) (cell cov n i j) (mul binary64 (cell cov n i j) (sub binary64 unit tenth))

unfoldable pub shrink_outcome : List Float → ℕ → ℕ → ℕ → Outcome
shrink_outcome cov rows w room = first (squares (length cov) rows w room)

unfoldable pub shrink_answer : List Float → ℕ → ℕ → ℕ → Answer
shrink_answer cov rows w room = answer_of (shrink_outcome cov rows w room) w w

unfoldable pub shrunk : List Float → ℕ → ℕ → ℕ → List Float
shrunk cov rows w room = laid pz (shrink_outcome cov rows w room) room (grid w w (shrunk_cell cov w))

-- "Correlation c = cov / (root of one variance · root of the other)."
unfoldable pub correlation_cell : List Float → ℕ → ℕ → ℕ → Float
correlation_cell cov n i j = div binary64 (cell cov n i j) (mul binary64 (root (cell cov n i i)) (root (cell cov n j j)))

-- "A NaN variance isn't ≤ 0 and passes."
unfoldable pub any_low : List Float → ℕ → Bool
any_low cov n = any_to n (λ i. le (cell cov n i i) pz)

-- "an empty covariance to correlate, 3"
unfoldable pub correlation_table : List Float → ℕ → ℕ → ℕ → List Line
unfolding any_low
correlation_table cov rows w room = squares (length cov) rows w room ++ ((eqb w 0, DimensionMismatch) ∷ (any_low cov w, NoData) ∷ [])

unfoldable pub correlation_outcome : List Float → ℕ → ℕ → ℕ → Outcome
correlation_outcome cov rows w room = first (correlation_table cov rows w room)

unfoldable pub correlation_answer : List Float → ℕ → ℕ → ℕ → Answer
correlation_answer cov rows w room = answer_of (correlation_outcome cov rows w room) w w

unfoldable pub correlations : List Float → ℕ → ℕ → ℕ → List Float
correlations cov rows w room = laid pz (correlation_outcome cov rows w room) room (grid w w (correlation_cell cov w))
