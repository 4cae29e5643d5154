-- Document 01's listing of its sample job, listings with ceilings and without, the refusals, and the line of a refusal, computed by antt as one table. Assumes nothing.
use Prim.Native.Nat.{ℕ}
use mathlib.Core.Path.{◌≡◌, refl}
use mathlib.Core.Bool.{Bool, true}
use mathlib.Core.List.{List, [], ◌∷◌, ◌++◌}
use lib.Count.{count_trailing_zeros}
use lib.Dec.{eqb}
use lib.ListN.{get_or}
use lib.Ieee.{Float, binary64, size, odd, of_fields, of_bits, to_bits}
use Rattle.refusal.specs.Table.{first, and_then}
use Rattle.refusal.specs.Telling.{outcome_tells}
use Rattle.text.specs.Bytes.{bytes, same}
use Rattle.fields.specs.Split.{first_piece, all}
use Rattle.lent.specs.Count.{upto, count, over_all}
use Rattle.lent.specs.Grid.{tab}
use Rattle.fractions.specs.Fractions.{in_range, whole_part, left_over, whole_at, left_at, sooner, rank_of}
use Rattle.millionths.specs.Millionths.{whole_total, missing, millionths_at, millionths_in, out_of_reach, millionths_lines}
use Rattle.ceilings.specs.Ceilings.{kept_at, gap_at, cut_total, left_for, capped_at, capped_in, too_low}
use Rattle.ceilings.specs.Figures.{figures_in, figures_lines, are_unlike}
use Rattle.tree.specs.Rows.{once, is_order}
use Rattle.writing.specs.Writing.{digit_byte, digits, places, decimal, hex_of, joined}
use Rattle.listing.specs.Listing.{ceiling_at, holding_at, ceiling_field, holding_line, line_of, ordered, listing, refusal_line, is_short, sheet_lines, sheet_outcome}

-- A, B, C
abbrev name : ℕ → List ℕ
name i = get_or ((65 ∷ []) ∷ (66 ∷ []) ∷ (67 ∷ []) ∷ []) i []

abbrev weights : List Float
weights = of_bits binary64 0x3fd0_0000_0000_0000 ∷ of_bits binary64 0x3fd0_0000_0000_0000 ∷ of_bits binary64 0x3fe0_0000_0000_0000 ∷ []

abbrev order : List ℕ
order = 2 ∷ 0 ∷ 1 ∷ []

-- 0.75 and 0.25
abbrev uneven : List Float
uneven = of_bits binary64 0x3fe8_0000_0000_0000 ∷ of_bits binary64 0x3fd0_0000_0000_0000 ∷ []

abbrev t : List ℕ
t = 9 ∷ []

abbrev n : List ℕ
n = 10 ∷ []

abbrev printed : List ℕ
printed =
    bytes "A" ++ t ++ bytes "3fd0000000000000" ++ t ++ bytes "250000" ++ n
    ++ bytes "B" ++ t ++ bytes "3fd0000000000000" ++ t ++ bytes "250000" ++ n
    ++ bytes "C" ++ t ++ bytes "3fe0000000000000" ++ t ++ bytes "500000" ++ n
    ++ bytes "order" ++ t ++ bytes "C" ++ t ++ bytes "A" ++ t ++ bytes "B" ++ n

-- what stands after the bits of 0.75 and of 0.25, by the ceilings
abbrev lists : List ℕ → List ℕ → List ℕ → Bool
lists cs a b =
    same (listing name uneven cs (1 ∷ 0 ∷ []))
    (bytes "A" ++ t ++ bytes "3fe8000000000000" ++ t ++ a ++ n
    ++ bytes "B" ++ t ++ bytes "3fd0000000000000" ++ t ++ b ++ n
    ++ bytes "order" ++ t ++ bytes "B" ++ t ++ bytes "A" ++ n)

-- the refusal of a listing of two assets, their names in an empty text, by weights, ceilings and order
abbrev refuses : List Float → List ℕ → List ℕ → ℕ → Bool
refuses ws cs o k = eqb (outcome_tells (sheet_outcome [] (0 ∷ 0 ∷ []) ws cs o 8192)).number k

abbrev table : List Bool
table =
    same (listing name weights [] order) printed
    -- no assets
    ∷ same (listing name [] [] []) (bytes "order" ++ n)
    -- no ceilings; 250,000 cut from A are handed to B; a ceiling of 0; one above 1,000,000
    ∷ lists [] (bytes "750000") (bytes "250000")
    ∷ lists (500000 ∷ 600000 ∷ []) (bytes "500000" ++ t ++ bytes "500000") (bytes "500000" ++ t ++ bytes "600000")
    ∷ lists (0 ∷ 1000001 ∷ []) (bytes "0" ++ t ++ bytes "0") (bytes "1000000" ++ t ++ bytes "1000001")
    -- ceilings of one million together, and of 999,999: 20
    ∷ refuses uneven (500000 ∷ 500000 ∷ []) (1 ∷ 0 ∷ []) 0
    ∷ refuses uneven (500000 ∷ 499999 ∷ []) (1 ∷ 0 ∷ []) 20
    -- 3 and 14 before 20; 18 and 13 before it
    ∷ refuses uneven (499999 ∷ []) (1 ∷ 1 ∷ []) 3
    ∷ refuses uneven (0 ∷ 0 ∷ 0 ∷ []) (1 ∷ 1 ∷ []) 3
    ∷ refuses uneven (0 ∷ 0 ∷ []) (1 ∷ 1 ∷ []) 14
    ∷ refuses (of_bits binary64 0x3fe8_0000_0000_0000 ∷ of_bits binary64 0x3fe8_0000_0000_0000 ∷ []) (0 ∷ 0 ∷ []) (1 ∷ 0 ∷ []) 18
    ∷ refuses (of_bits binary64 0x3ff0_0000_0000_0001 ∷ of_bits binary64 0x0 ∷ []) (0 ∷ 0 ∷ []) (1 ∷ 0 ∷ []) 13
    ∷ same (refusal_line 6) (bytes "refused" ++ t ++ bytes "6" ++ n)
    ∷ same (refusal_line 15) (bytes "refused" ++ t ++ bytes "15" ++ n)
    ∷ []

pub figures : all (λ b. b) table ≡ true
unfolding all first_piece same count over_all first and_then once is_order listing joined ceiling_at holding_at ceiling_field holding_line line_of ordered refusal_line is_short sheet_lines sheet_outcome decimal hex_of places digits digit_byte tab upto in_range whole_part left_over whole_at left_at sooner rank_of whole_total missing millionths_at millionths_in out_of_reach millionths_lines kept_at gap_at cut_total left_for capped_at capped_in too_low figures_in figures_lines are_unlike of_bits to_bits of_fields odd size count_trailing_zeros
figures = refl
