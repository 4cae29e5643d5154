-- Document 02, request 3: "Start from the whole parts, then give one more millionth each to the assets with the largest fractions left over, the lower asset number first on a tie":
-- the whole parts, the fractions, and who comes first. Definitions only.
use Rattle.std.specs.Prelude.{ℕ, ◌*◌, ◌/◌, ◌%◌, ◌^◌, Bool, true, false, not, ◌&&◌, ◌||◌, List, [], ◌∷◌, eqb, leb, ltb, length, get_or, Float}
use Rattle.std.specs.Float.{nan, inf, fin}
use Rattle.arithmetic.specs.Exact.{units_of}
use Rattle.refusal.specs.Table.{Line, first, Outcome}
use Rattle.refusal.specs.declared.Refusal.TheVariants.{OverLimit, ShortBuffer, WeightOutOfRange}
use Rattle.lent.specs.Count.{one, upto}
use Rattle.lent.specs.Grid.{tab}
use Rattle.lent.specs.Lent.{most_assets, laid}
use Rattle.fields.specs.Split.{all}

-- a weight that is not "NaN, below 0 or above 1". One is 2^1074 units of 2^-1074; −0 is not below 0
unfoldable pub in_range : Float → Bool
in_range nan = false
in_range (inf s) = false
in_range (fin true m e) = eqb (units_of (fin true m e)) 0
in_range (fin false m e) = leb (units_of (fin false m e)) (2 ^ 1074)

-- "the whole part of its exact value times 1,000,000; −0 is 0". A weight that is not in range is refused, and has no part that is read
unfoldable pub whole_part : Float → ℕ
whole_part w = units_of w * 1000000 / 2 ^ 1074

-- the fraction left over past it, exact: in units of 2^-1074
unfoldable pub left_over : Float → ℕ
left_over w = units_of w * 1000000 % 2 ^ 1074

-- the same of asset i
unfoldable pub whole_at : List Float → ℕ → ℕ
whole_at ws i = whole_part (get_or ws i nan)

unfoldable pub left_at : List Float → ℕ → ℕ
left_at ws i = left_over (get_or ws i nan)

-- asset j comes before asset i: "the largest fractions left over, the lower asset number first on a tie"
unfoldable pub sooner : (ℕ → ℕ) → ℕ → ℕ → Bool
sooner left j i = ltb (left i) (left j) || (eqb (left j) (left i) && ltb j i)

-- how many of n assets come before asset i
unfoldable pub rank_of : (ℕ → ℕ) → ℕ → ℕ → ℕ
rank_of left n i = upto (λ j. one (sooner left j i)) n

-- ---- a list of weights: 9, 11, 13

-- 13: "a weight to be put in millionths is NaN, below 0 or above 1"
abbrev pub range_line : List Float → Line
range_line ws = (not (all in_range ws), WeightOutOfRange)

unfoldable pub wholes_in : List Float → List ℕ
wholes_in ws = tab (length ws) (whole_at ws)

unfoldable pub ranks_in : List Float → List ℕ
ranks_in ws = tab (length ws) (rank_of (left_at ws) (length ws))

unfoldable pub fractions_table : List Float → ℕ → ℕ → List Line
fractions_table ws wholes ranks =
    (ltb most_assets (length ws), OverLimit)
    ∷ (ltb wholes (length ws) || ltb ranks (length ws), ShortBuffer)
    ∷ range_line ws
    ∷ []

unfoldable pub fractions_outcome : List Float → ℕ → ℕ → Outcome
fractions_outcome ws wholes ranks = first (fractions_table ws wholes ranks)

-- what the two buffers, with room for so many numbers each, hold
unfoldable pub wholes_laid : List Float → ℕ → ℕ → List ℕ
wholes_laid ws wholes ranks = laid 0 (fractions_outcome ws wholes ranks) wholes (wholes_in ws)

unfoldable pub ranks_laid : List Float → ℕ → ℕ → List ℕ
ranks_laid ws wholes ranks = laid 0 (fractions_outcome ws wholes ranks) ranks (ranks_in ws)
