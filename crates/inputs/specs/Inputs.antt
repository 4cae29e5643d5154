-- What both allocators do with the matrices that they are given. Definitions only.
use Rattle.std.specs.Prelude.{ℕ, ◌*◌, ◌-◌, Bool, true, false, not, ◌||◌, List, [], ◌∷◌, ◌++◌, ltb, eqb, length, Float, Some, None}
use Rattle.arithmetic.specs.Constants.{pz}
use Rattle.refusal.specs.Table.{Line, first, Outcome}
use Rattle.refusal.specs.declared.Refusal.TheVariants.{NoData, OverLimit, SliceLength, ShortBuffer}
use Rattle.lent.specs.Grid.{grid}
use Rattle.lent.specs.Lent.{most_assets, too_big, misfits, sizes, laid, answer_of, Answer, Shape}
use Rattle.resample.specs.Resample.{kept_rows, sampled_cell, return_cell, breaks_price_rules}

-- ---- a matrix that may be absent

unfoldable pub absent : Shape → Bool
absent None = true
absent (Some s) = false

-- its rows, 0 where it is absent
unfoldable pub rows_of_shape : Shape → ℕ
rows_of_shape None = 0
rows_of_shape (Some s) = s.rows

-- given, with columns other than n
unfoldable pub other_columns : Shape → ℕ → Bool
other_columns None n = false
other_columns (Some s) n = not (eqb s.columns n)

-- given, and not n by n
unfoldable pub other_size : Shape → ℕ → Bool
other_size None n = false
other_size (Some s) n = not (eqb s.rows n) || not (eqb s.columns n)

-- "Always 9, 10, 11 first": 9 over the asset count and all the matrices, then 10 over all; p, r and c are the shapes of prices, returns and covariance, each with its slice's length
unfoldable pub matrix_lines : ℕ → Shape → ℕ → Shape → ℕ → Shape → ℕ → List Line
matrix_lines n p pl r rl c cl =
    (ltb most_assets n, OverLimit)
    ∷ (too_big p, OverLimit)
    ∷ (too_big r, OverLimit)
    ∷ (too_big c, OverLimit)
    ∷ (misfits p pl, SliceLength)
    ∷ (misfits r rl, SliceLength)
    ∷ (misfits c cl, SliceLength)
    ∷ []

-- ---- from prices to returns: sampled, then differenced

unfoldable pub sampled : List Float → ℕ → ℕ → ℕ → List Float
sampled prices rows w s = grid (kept_rows rows s) w (sampled_cell prices rows w s)

-- the price rules, of the sampled prices
unfoldable pub no_returns : List Float → ℕ → ℕ → ℕ → Bool
unfolding sampled breaks_price_rules
no_returns prices rows w s = breaks_price_rules (sampled prices rows w s) (kept_rows rows s) w

unfoldable pub made_returns : List Float → ℕ → ℕ → ℕ → List Float
unfolding sampled
made_returns prices rows w s = grid (kept_rows rows s - 1) w (return_cell (sampled prices rows w s) w)

-- what `sampled_returns` returns, and what its buffer of room entries holds
unfoldable pub made_outcome : List Float → ℕ → ℕ → ℕ → ℕ → Outcome
unfolding no_returns
made_outcome prices rows w s room =
    first (sizes (length prices) rows w ++ ((ltb room ((kept_rows rows s - 1) * w), ShortBuffer) ∷ (no_returns prices rows w s, NoData) ∷ []))

unfoldable pub made_answer : List Float → ℕ → ℕ → ℕ → ℕ → Answer
unfolding made_outcome
made_answer prices rows w s room = answer_of (made_outcome prices rows w s room) (kept_rows rows s - 1) w

unfoldable pub made_laid : List Float → ℕ → ℕ → ℕ → ℕ → List Float
unfolding made_outcome made_returns
made_laid prices rows w s room = laid pz (made_outcome prices rows w s room) room (made_returns prices rows w s)
