-- Document 02, requests 3 and 10: weights in millionths, under ceilings where these are given. Definitions only.
use Rattle.std.specs.Prelude.{ℕ, Bool, not, cond, ◌&&◌, List, [], ◌∷◌, ◌++◌, ltb, eqb, length, Float}
use Rattle.refusal.specs.Table.{Line, first, Outcome}
use Rattle.refusal.specs.declared.Refusal.TheVariants.{DimensionMismatch, OverLimit, ShortBuffer, CeilingsTooLow}
use Rattle.lent.specs.Lent.{most_assets, laid}
use Rattle.millionths.specs.Millionths.{millionths_in, millionths_lines}
use Rattle.ceilings.specs.Ceilings.{capped_in, too_low}

-- ceilings are given: a list of none stands for no ceilings
abbrev pub are_given : List ℕ → Bool
are_given cs = ltb 0 (length cs)

-- "After request 3's rounding", cut and handed out where ceilings are given
unfoldable pub figures_in : List Float → List ℕ → List ℕ
unfolding capped_in
figures_in ws cs = cond (are_given cs) (capped_in (millionths_in ws) cs) (millionths_in ws)

-- 13 and 18, then 20
unfoldable pub figures_lines : List Float → List ℕ → List Line
unfolding too_low
figures_lines ws cs = millionths_lines ws ++ ((are_given cs && too_low cs, CeilingsTooLow) ∷ [])

-- neither none nor one for each of n assets
unfoldable pub are_unlike : List ℕ → ℕ → Bool
are_unlike cs n = are_given cs && not (eqb (length cs) n)

-- 9, 11, 3, then those
unfoldable pub figures_table : List Float → List ℕ → ℕ → List Line
unfolding are_unlike figures_lines
figures_table ws cs room =
    (ltb most_assets (length ws), OverLimit)
    ∷ (ltb room (length ws), ShortBuffer)
    ∷ (are_unlike cs (length ws), DimensionMismatch)
    ∷ figures_lines ws cs

unfoldable pub figures_outcome : List Float → List ℕ → ℕ → Outcome
unfolding figures_table
figures_outcome ws cs room = first (figures_table ws cs room)

unfoldable pub figures_laid : List Float → List ℕ → ℕ → List ℕ
unfolding figures_outcome figures_in
figures_laid ws cs room = laid 0 (figures_outcome ws cs room) room (figures_in ws cs)
