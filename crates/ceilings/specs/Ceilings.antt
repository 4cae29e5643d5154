-- Document 02, request 10, "Ceilings for single holdings": "After request 3's rounding, cut every asset to its ceiling, then hand the cut total out in asset order,
-- each one filled up to its ceiling." Definitions only.
use Rattle.std.specs.Prelude.{ℕ, zero, suc, ◌+◌, ◌-◌, min, Bool, not, List, [], ◌∷◌, ltb, eqb, length, get_or}
use Rattle.refusal.specs.Table.{Line, first, Outcome}
use Rattle.refusal.specs.declared.Refusal.TheVariants.{DimensionMismatch, OverLimit, TotalOutOfReach, CeilingsTooLow}
use Rattle.lent.specs.Count.{upto}
use Rattle.lent.specs.Grid.{tab}
use Rattle.lent.specs.Lent.{most_assets, laid}
use Rattle.millionths.specs.Meaning.{total_of}

-- "cut every asset to its ceiling": asset i's figure then, and what it lacks of the ceiling
unfoldable pub kept_at : List ℕ → List ℕ → ℕ → ℕ
kept_at xs cs i = min (get_or xs i 0) (get_or cs i 0)

unfoldable pub gap_at : List ℕ → List ℕ → ℕ → ℕ
unfolding kept_at
gap_at xs cs i = get_or cs i 0 - kept_at xs cs i

-- "the cut total"
unfoldable pub cut_total : List ℕ → List ℕ → ℕ
unfolding kept_at
cut_total xs cs = upto (λ i. get_or xs i 0 - kept_at xs cs i) (length xs)

-- "hand .. out in asset order": what is left of an amount once each of the assets before i has filled its gap, 0 where they took it all
unfoldable pub left_for : (ℕ → ℕ) → ℕ → ℕ → ℕ
left_for gap amount zero = amount
left_for gap amount (suc i) = left_for gap amount i - gap i

-- "each one filled up to its ceiling"
unfoldable pub capped_at : List ℕ → List ℕ → ℕ → ℕ
unfolding kept_at gap_at cut_total left_for
capped_at xs cs i = kept_at xs cs i + min (gap_at xs cs i) (left_for (gap_at xs cs) (cut_total xs cs) i)

unfoldable pub capped_in : List ℕ → List ℕ → List ℕ
unfolding capped_at
capped_in xs cs = tab (length xs) (capped_at xs cs)

-- ---- a list of millionths and a list of ceilings: 9, 3, 18, 20

-- "20, after 18, exactly when no list of whole millionths, none above its ceiling, totals one million": the ceilings total less. That these are the same is the law too_low_exactly
unfoldable pub too_low : List ℕ → Bool
too_low cs = ltb (total_of cs) 1000000

-- a list that does not total one million is none of request 3's (18). A ceiling above 1,000,000 is no refusal here, and binds nobody
unfoldable pub capped_table : List ℕ → List ℕ → List Line
unfolding too_low
capped_table xs cs =
    (ltb most_assets (length xs), OverLimit)
    ∷ (not (eqb (length cs) (length xs)), DimensionMismatch)
    ∷ (not (eqb (total_of xs) 1000000), TotalOutOfReach)
    ∷ (too_low cs, CeilingsTooLow)
    ∷ []

unfoldable pub capped_outcome : List ℕ → List ℕ → Outcome
unfolding capped_table
capped_outcome xs cs = first (capped_table xs cs)

-- what the list holds then: the figures under the ceilings, or zeros
unfoldable pub capped_laid : List ℕ → List ℕ → List ℕ
unfolding capped_outcome capped_in
capped_laid xs cs = laid 0 (capped_outcome xs cs) (length xs) (capped_in xs cs)
