-- Document 01, "From prices to distances": distances. Definitions only.
use Rattle.std.specs.Prelude.{ℕ, min, max, cond, List, eqb, length, Float}
use Rattle.std.specs.Float.{binary64}
use Rattle.std.specs.Float.Ieee.{neg, sub, mul, div}
use Rattle.arithmetic.specs.Constants.{pz, unit, two}
use Rattle.arithmetic.specs.Arithmetic.{max_of, clamp_of}
use Rattle.arithmetic.specs.Root.{root}
use Rattle.refusal.specs.Table.{first, Outcome}
use Rattle.lent.specs.Grid.{cell, grid, sum_to}
use Rattle.lent.specs.Lent.{squares, laid, answer_of, Answer}
use Rattle.distances.specs.declared.Measure.{Measure}
use Rattle.distances.specs.declared.Measure.TheVariants.{Hrp, Hcaa}

-- −1
abbrev pub minus_one : Float
minus_one = neg unit

-- "Clamp c to −1..1."
unfoldable pub clamped : Float → Float
clamped c = clamp_of c minus_one unit

-- "HRP distance: root of (max(1 − c, 0) / 2). HCAA: root of max(2(1 − c), 0)." "A NaN correlation so has distance 0."
unfoldable pub distance_of : Measure → Float → Float
unfolding clamped
distance_of Hrp c = root (div binary64 (max_of (sub binary64 unit (clamped c)) pz) two)
distance_of Hcaa c = root (max_of (mul binary64 two (sub binary64 unit (clamped c))) pz)

unfoldable pub distance_cell : Measure → List Float → ℕ → ℕ → ℕ → Float
unfolding distance_of
distance_cell of corr n i j = distance_of of (cell corr n i j)

-- the outcome of both calls: "a matrix that must be square and isn't" is 3
unfoldable pub distance_outcome : List Float → ℕ → ℕ → ℕ → Outcome
distance_outcome xs rows w room = first (squares (length xs) rows w room)

unfoldable pub distance_answer : List Float → ℕ → ℕ → ℕ → Answer
distance_answer xs rows w room = answer_of (distance_outcome xs rows w room) w w

-- what the buffer of `corr_to_distances` holds
unfoldable pub distances : Measure → List Float → ℕ → ℕ → ℕ → List Float
distances of corr rows w room = laid pz (distance_outcome corr rows w room) room (grid w w (distance_cell of corr w))

-- "Distance of distances: diagonal taken as 0,"
unfoldable pub off_diagonal : List Float → ℕ → ℕ → ℕ → Float
off_diagonal d n k i = cond (eqb k i) pz (cell d n k i)

-- "root of the sum of squared column differences,"
unfoldable pub square : Float → Float
square x = mul binary64 x x

unfoldable pub between : List Float → ℕ → ℕ → ℕ → Float
unfolding square off_diagonal
between d n i j = root (sum_to n (λ k. square (sub binary64 (off_diagonal d n k i) (off_diagonal d n k j))))

-- "i < j, copied"
unfoldable pub between_cell : List Float → ℕ → ℕ → ℕ → Float
unfolding between
between_cell d n i j = cond (eqb i j) pz (between d n (min i j) (max i j))

-- what the buffer of `distance_of_distances` holds
unfoldable pub betweens : List Float → ℕ → ℕ → ℕ → List Float
betweens d rows w room = laid pz (distance_outcome d rows w room) room (grid w w (between_cell d w))
