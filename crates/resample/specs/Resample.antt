-- Document 01, "From prices to distances": sampling and returns. Definitions only.
use Rattle.std.specs.Prelude.{ℕ, ◌+◌, ◌*◌, ◌-◌, ◌/◌, Bool, ◌||◌, cond, List, [], ◌∷◌, ◌++◌, leb, ltb, length, get_or, Float}
use Rattle.std.specs.Float.{nan, binary64}
use Rattle.std.specs.Float.Ieee.{sub, div, eq}
use Rattle.arithmetic.specs.Constants.{pz, unit}
use Rattle.refusal.specs.Table.{Line, first, Outcome}
use Rattle.refusal.specs.declared.Refusal.TheVariants.{NoData, ShortBuffer}
use Rattle.lent.specs.Grid.{cell, grid, any_to}
use Rattle.lent.specs.Lent.{sizes, laid, answer_of, Answer}
use Rattle.text.specs.Bytes.{bytes, is_word}

-- "Sampling: `w`, `week`, `weekly` step 5; `m`, `month`, `monthly` step 21 (any case); else 1."
unfoldable pub is_weekly : List ℕ → Bool
is_weekly name = is_word name (bytes "w") || (is_word name (bytes "week") || is_word name (bytes "weekly"))

unfoldable pub is_monthly : List ℕ → Bool
is_monthly name = is_word name (bytes "m") || (is_word name (bytes "month") || is_word name (bytes "monthly"))

unfoldable pub step_of : List ℕ → ℕ
unfolding is_weekly is_monthly
step_of name = cond (is_weekly name) 5 (cond (is_monthly name) 21 1)

-- "Step s keeps rows s − 1, 2s − 1, ... and keeps all rows where there are fewer than s or s is 0."
unfoldable pub keeps_all : ℕ → ℕ → Bool
keeps_all rows s = leb s 1 || ltb rows s

unfoldable pub kept_rows : ℕ → ℕ → ℕ
unfolding keeps_all
kept_rows rows s = cond (keeps_all rows s) rows (rows / s)

-- row r of the answer is this row of the prices
unfoldable pub kept_row : ℕ → ℕ → ℕ → ℕ
unfolding keeps_all
kept_row rows s r = cond (keeps_all rows s) r ((r + 1) * s - 1)

unfoldable pub sampled_cell : List Float → ℕ → ℕ → ℕ → ℕ → ℕ → Float
unfolding kept_row
sampled_cell prices rows w s r c = cell prices w (kept_row rows s r) c

unfoldable pub sampling_table : ℕ → ℕ → ℕ → ℕ → ℕ → List Line
unfolding kept_rows
sampling_table len rows w s room = sizes len rows w ++ ((ltb room (kept_rows rows s * w), ShortBuffer) ∷ [])

unfoldable pub sampling_outcome : List Float → ℕ → ℕ → ℕ → ℕ → Outcome
sampling_outcome prices rows w s room = first (sampling_table (length prices) rows w s room)

-- what `resample_prices` returns, and what its buffer of room entries holds
unfoldable pub sampled_answer : List Float → ℕ → ℕ → ℕ → ℕ → Answer
sampled_answer prices rows w s room = answer_of (sampling_outcome prices rows w s room) (kept_rows rows s) w

unfoldable pub sampled_prices : List Float → ℕ → ℕ → ℕ → ℕ → List Float
sampled_prices prices rows w s room = laid pz (sampling_outcome prices rows w s room) room (grid (kept_rows rows s) w (sampled_cell prices rows w s))

-- "price / previous − 1"
unfoldable pub return_cell : List Float → ℕ → ℕ → ℕ → Float
return_cell prices w r c = sub binary64 (div binary64 (cell prices w (r + 1) c) (cell prices w r c)) unit

-- "the first zero price met as a denominator ends the scan with 1": the denominators are the prices of every row but the last
unfoldable pub zero_met : List Float → ℕ → Bool
zero_met prices n = any_to n (λ k. eq (get_or prices k nan) pz)

-- "Returns: under 2 sampled rows is 1.", or a zero price is met: the price rules
unfoldable pub breaks_price_rules : List Float → ℕ → ℕ → Bool
unfolding zero_met
breaks_price_rules prices rows w = ltb rows 2 || zero_met prices ((rows - 1) * w)

-- "Always 9, 10, 11 first."
unfoldable pub returns_table : List Float → ℕ → ℕ → ℕ → List Line
unfolding breaks_price_rules
returns_table prices rows w room =
    sizes (length prices) rows w ++ ((ltb room ((rows - 1) * w), ShortBuffer) ∷ (breaks_price_rules prices rows w, NoData) ∷ [])

unfoldable pub returns_outcome : List Float → ℕ → ℕ → ℕ → Outcome
returns_outcome prices rows w room = first (returns_table prices rows w room)

-- what `returns_from_prices` returns, and what its buffer of room entries holds
unfoldable pub returns_answer : List Float → ℕ → ℕ → ℕ → Answer
returns_answer prices rows w room = answer_of (returns_outcome prices rows w room) (rows - 1) w

unfoldable pub returns_of : List Float → ℕ → ℕ → ℕ → List Float
returns_of prices rows w room = laid pz (returns_outcome prices rows w room) room (grid (rows - 1) w (return_cell prices w))
