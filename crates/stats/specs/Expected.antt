-- Document 01, "Sharing out": expected returns. Definitions only.
use Rattle.std.specs.Prelude.{ℕ, zero, suc, ◌-◌, cond, List, [], ◌∷◌, ◌++◌, ltb, eqb, length, Float}
use Rattle.std.specs.Float.{binary64}
use Rattle.std.specs.Float.Ieee.{of_bits, sub, mul, div}
use Rattle.arithmetic.specs.Constants.{pz, unit, two}
use Rattle.refusal.specs.Table.{first, Outcome}
use Rattle.refusal.specs.declared.Refusal.TheVariants.{ShortBuffer}
use Rattle.lent.specs.Grid.{cell, tab, sum_to}
use Rattle.lent.specs.Lent.{sizes, laid, answer_of, Answer}
use Rattle.stats.specs.Covariance.{mean_of}

-- 501 and 252
abbrev pub f501 : Float
f501 = of_bits binary64 0x407f_5000_0000_0000

abbrev pub year : Float
year = of_bits binary64 0x406f_8000_0000_0000

-- "Expected returns: mean times 252;" "No rows give 0."
unfoldable pub mean_return : List Float → ℕ → ℕ → ℕ → Float
unfolding mean_of
mean_return xs rows w c = cond (eqb rows 0) pz (mul binary64 (mean_of xs rows w c) year)

-- "alpha = 2/501, the newest row has weight 1, each older row the last weight times (1 − alpha)": the weight of the k-th newest row
unfoldable pub weight_at : ℕ → Float
weight_at zero = unit
weight_at (suc k) = mul binary64 (weight_at k) (sub binary64 unit (div binary64 two f501))

-- "the weighted sum over the sum of weights, both summed newest first, times 252"
unfoldable pub exponential_return : List Float → ℕ → ℕ → ℕ → Float
unfolding weight_at
exponential_return xs rows w c =
    cond (eqb rows 0) pz
    (mul binary64
    (div binary64 (sum_to rows (λ k. mul binary64 (weight_at k) (cell xs w (rows - 1 - k) c))) (sum_to rows weight_at))
    year)

-- one row of w cells
unfoldable pub expected_outcome : List Float → ℕ → ℕ → ℕ → Outcome
expected_outcome xs rows w room = first (sizes (length xs) rows w ++ ((ltb room w, ShortBuffer) ∷ []))

unfoldable pub expected_answer : List Float → ℕ → ℕ → ℕ → Answer
expected_answer xs rows w room = answer_of (expected_outcome xs rows w room) 1 w

unfoldable pub mean_returns : List Float → ℕ → ℕ → ℕ → List Float
mean_returns xs rows w room = laid pz (expected_outcome xs rows w room) room (tab w (mean_return xs rows w))

unfoldable pub exponential_returns : List Float → ℕ → ℕ → ℕ → List Float
exponential_returns xs rows w room = laid pz (expected_outcome xs rows w room) room (tab w (exponential_return xs rows w))
