-- The sheet of document 01's sample job, with names and without, and under ceilings, and of one asset; the refusals. Computed by antt as one table. Assumes nothing.
use Prim.Native.Nat.{ℕ}
use mathlib.Core.Path.{◌≡◌, refl}
use mathlib.Core.Bool.{Bool, true, false}
use mathlib.Core.List.{List, [], ◌∷◌, ◌++◌}
use lib.Count.{count_trailing_zeros}
use lib.Dec.{eqb}
use lib.ListN.{get_or}
use lib.Ieee.{Float, binary64, size, odd, of_fields, of_bits}
use Rattle.refusal.specs.Table.{first, and_then}
use Rattle.refusal.specs.Telling.{outcome_tells}
use Rattle.lent.specs.Count.{upto, count, over_all}
use Rattle.lent.specs.Grid.{tab}
use Rattle.text.specs.Bytes.{bytes, same}
use Rattle.fields.specs.Split.{first_piece, all}
use Rattle.fractions.specs.Fractions.{in_range, whole_part, left_over, whole_at, left_at, sooner, rank_of}
use Rattle.millionths.specs.Millionths.{whole_total, missing, millionths_at, millionths_in, out_of_reach, millionths_lines}
use Rattle.ceilings.specs.Ceilings.{kept_at, gap_at, cut_total, left_for, capped_at, capped_in, too_low}
use Rattle.ceilings.specs.Figures.{figures_in, figures_lines, are_unlike}
use Rattle.tree.specs.Rows.{below, once, is_tree}
use Rattle.tree.specs.Tree.{grow, tree_at, leaves}
use Rattle.branches.specs.Branch.{walk, branches, find, first_of, size_of, depth_of, members_of, subtotal}
use Rattle.writing.specs.Writing.{digit_byte, digits, places, decimal, joined}
use Rattle.listing.specs.Listing.{is_short}
use Rattle.groups.specs.Groups.{group_of, group_fields, indent, tag_of, group_line, nodes_down, line_down, group_sheet, least_sheet, group_lines, group_outcome}

-- A, B, C
abbrev name : ℕ → List ℕ
name i = get_or ((65 ∷ []) ∷ (66 ∷ []) ∷ (67 ∷ []) ∷ []) i []

-- "rows [0,1],[2,3]", and the job's listing
abbrev rows : List ℕ
rows = 0 ∷ 1 ∷ 2 ∷ 3 ∷ []

abbrev parts : List ℕ
parts = 250000 ∷ 250000 ∷ 500000 ∷ []

-- 1, 0.5 and 0.25; the job's weights
abbrev whole : Float
whole = of_bits binary64 0x3ff0_0000_0000_0000

abbrev half : Float
half = of_bits binary64 0x3fe0_0000_0000_0000

abbrev quarter : Float
quarter = of_bits binary64 0x3fd0_0000_0000_0000

abbrev weights : List Float
weights = quarter ∷ quarter ∷ half ∷ []

abbrev t : List ℕ
t = 9 ∷ []

abbrev n : List ℕ
n = 10 ∷ []

-- a line by its three numbers
abbrev line : List ℕ → List ℕ → List ℕ → List ℕ
line depth size total = depth ++ t ++ size ++ t ++ total

-- a sheet for the assets whose names begin at these places of an empty text
abbrev refused : List ℕ → List Float → List ℕ → List ℕ → Bool → ℕ → ℕ
refused starts ws cs tree named room = (outcome_tells (group_outcome [] starts ws cs tree named room)).number

abbrev table : List Bool
table =
    same (group_sheet false name rows parts 3)
    (line (bytes "0") (bytes "3") (bytes "1000000") ++ n ++ line (bytes "1") (bytes "1") (bytes "500000") ++ n ++ line (bytes "1") (bytes "2") (bytes "500000") ++ n
    ++ line (bytes "2") (bytes "1") (bytes "250000") ++ n ++ line (bytes "2") (bytes "1") (bytes "250000") ++ n)
    ∷ same (group_sheet true name rows parts 3)
    (line (bytes "0") (bytes "3") (bytes "1000000") ++ n ++ bytes "  " ++ line (bytes "1") (bytes "1") (bytes "500000") ++ t ++ bytes "C" ++ n
    ++ bytes "  " ++ line (bytes "1") (bytes "2") (bytes "500000") ++ n ++ bytes "    " ++ line (bytes "2") (bytes "1") (bytes "250000") ++ t ++ bytes "A" ++ n
    ++ bytes "    " ++ line (bytes "2") (bytes "1") (bytes "250000") ++ t ++ bytes "B" ++ n)
    -- 200,000 cut from C are handed to A and B: the subtotals are after ceilings
    ∷ same (group_sheet false name rows (figures_in weights (300000 ∷ 400000 ∷ 300000 ∷ [])) 3)
    (line (bytes "0") (bytes "3") (bytes "1000000") ++ n ++ line (bytes "1") (bytes "1") (bytes "300000") ++ n ++ line (bytes "1") (bytes "2") (bytes "700000") ++ n
    ++ line (bytes "2") (bytes "1") (bytes "300000") ++ n ++ line (bytes "2") (bytes "1") (bytes "400000") ++ n)
    -- one asset
    ∷ same (group_sheet false name [] (1000000 ∷ []) 1) (line (bytes "0") (bytes "1") (bytes "1000000") ++ n)
    -- 11 by its form, 3, 1, 14; and none
    ∷ eqb (refused (0 ∷ []) (whole ∷ []) [] [] false 8191) 11
    ∷ eqb (refused (0 ∷ []) (whole ∷ []) [] [] true 32767) 11
    ∷ eqb (refused (0 ∷ []) (half ∷ half ∷ []) [] [] false 8192) 3
    ∷ eqb (refused [] [] [] [] false 8192) 1
    ∷ eqb (refused (0 ∷ []) (whole ∷ []) [] (0 ∷ []) false 8192) 14
    ∷ eqb (refused (0 ∷ []) (whole ∷ []) [] [] false 8192) 0
    ∷ eqb (refused (0 ∷ []) (whole ∷ []) [] [] true 32768) 0
    -- ceilings: 3 where they are not one for each, before 1; 20, after 18
    ∷ eqb (refused [] [] (1000000 ∷ []) [] false 8192) 3
    ∷ eqb (refused (0 ∷ []) (whole ∷ []) (1000000 ∷ []) [] false 8192) 0
    ∷ eqb (refused (0 ∷ []) (whole ∷ []) (999999 ∷ []) [] false 8192) 20
    ∷ eqb (refused (0 ∷ []) (half ∷ []) (999999 ∷ []) [] false 8192) 18
    ∷ []

pub sheet_figures : all (λ b. b) table ≡ true
unfolding all first_piece same upto count over_all tab first and_then below once is_tree grow tree_at leaves walk branches find first_of size_of depth_of members_of subtotal digit_byte digits places decimal joined is_short group_of group_fields indent tag_of group_line nodes_down line_down group_sheet least_sheet group_lines group_outcome in_range whole_part left_over whole_at left_at sooner rank_of whole_total missing millionths_at millionths_in out_of_reach millionths_lines kept_at gap_at cut_total left_for capped_at capped_in too_low figures_in figures_lines are_unlike of_bits of_fields odd size count_trailing_zeros
sheet_figures = refl
