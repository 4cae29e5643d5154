-- Document 02, request 3, "Millionths that add up": "Start from the whole parts, then give one more millionth each to the assets with the largest fractions left over,
-- the lower asset number first on a tie, until the total is 1,000,000." Definitions only.
use Rattle.std.specs.Prelude.{ℕ, ◌+◌, ◌-◌, Bool, ◌||◌, List, [], ◌∷◌, ltb, length, Float}
use Rattle.refusal.specs.Table.{Line, first, Outcome}
use Rattle.refusal.specs.declared.Refusal.TheVariants.{OverLimit, ShortBuffer, TotalOutOfReach}
use Rattle.lent.specs.Count.{one, upto}
use Rattle.lent.specs.Grid.{tab}
use Rattle.lent.specs.Lent.{most_assets, laid}
use Rattle.fractions.specs.Fractions.{whole_at, left_at, rank_of, range_line}

-- "the whole parts", added up, and what they miss of 1,000,000
unfoldable pub whole_total : List Float → ℕ
whole_total ws = upto (whole_at ws) (length ws)

unfoldable pub missing : List Float → ℕ
missing ws = 1000000 - whole_total ws

-- "one more millionth each .. until the total is 1,000,000": asset i gets one exactly where fewer assets than the missing amount come before it
unfoldable pub millionths_at : List Float → ℕ → ℕ
millionths_at ws i = whole_at ws i + one (ltb (rank_of (left_at ws) (length ws) i) (missing ws))

unfoldable pub millionths_in : List Float → List ℕ
millionths_in ws = tab (length ws) (millionths_at ws)

-- ---- a list of weights: 9, 11, 13, 18

-- "18, after 13, when the missing amount is below 0 or above the asset count"
unfoldable pub out_of_reach : List Float → Bool
out_of_reach ws = ltb 1000000 (whole_total ws) || ltb (length ws) (missing ws)

-- 13, then 18
unfoldable pub millionths_lines : List Float → List Line
millionths_lines ws = range_line ws ∷ (out_of_reach ws, TotalOutOfReach) ∷ []

unfoldable pub millionths_table : List Float → ℕ → List Line
millionths_table ws room = (ltb most_assets (length ws), OverLimit) ∷ (ltb room (length ws), ShortBuffer) ∷ millionths_lines ws

unfoldable pub millionths_outcome : List Float → ℕ → Outcome
millionths_outcome ws room = first (millionths_table ws room)

unfoldable pub millionths_laid : List Float → ℕ → List ℕ
millionths_laid ws room = laid 0 (millionths_outcome ws room) room (millionths_in ws)
