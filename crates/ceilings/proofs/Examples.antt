-- Figures of document 02, request 10, computed by antt as one table. Assumes nothing.
use Prim.Native.Nat.{ℕ}
use mathlib.Core.Path.{◌≡◌, refl}
use mathlib.Core.Bool.{Bool, true, false, ◌&&◌}
use mathlib.Core.List.{List, [], ◌∷◌, map}
use lib.Dec.{eqb}
use lib.Count.{count_trailing_zeros}
use lib.Ieee.{binary64, size, odd, of_fields, of_bits}
use lib.ListN.{replicate}
use Rattle.refusal.specs.Table.{first}
use Rattle.refusal.specs.Telling.{outcome_tells}
use Rattle.fields.specs.Split.{all}
use Rattle.fields.specs.Numerals.{digit, number, is_numeral}
use Rattle.lent.specs.Count.{upto, over_all}
use Rattle.lent.specs.Grid.{tab}
use Rattle.lent.specs.Lent.{laid}
use Rattle.fractions.specs.Fractions.{in_range, whole_part, left_over, whole_at, left_at, sooner, rank_of}
use Rattle.millionths.specs.Millionths.{whole_total, missing, millionths_at, millionths_in, out_of_reach, millionths_lines}
use Rattle.ceilings.specs.Ceilings.{kept_at, gap_at, cut_total, left_for, capped_at, capped_in, too_low, capped_table, capped_outcome, capped_laid}
use Rattle.ceilings.specs.Figures.{figures_in, figures_lines, are_unlike, figures_table, figures_outcome, figures_laid}
use Rattle.ceilings.specs.Written.{ceiling_of, is_ceiling, ceiling_read, ceiling_outcome}
use Rattle.std.specs.Prelude.{Some, None}
use Rattle.fields.specs.Outcomes.{Numeral}

abbrev same : List ℕ → List ℕ → Bool
same [] [] = true
same [] (y ∷ l) = false
same (x ∷ k) [] = false
same (x ∷ k) (y ∷ l) = eqb x y && same k l

-- these millionths, under these ceilings, are answered by this number and become these
abbrev become : List ℕ → List ℕ → ℕ → List ℕ → Bool
become xs cs k out = eqb (outcome_tells (capped_outcome xs cs)).number k && same (capped_laid xs cs) out

-- the weights of these bits, under these ceilings, in a buffer of so much room, are answered by this number and leave these
abbrev leave : List ℕ → List ℕ → ℕ → ℕ → List ℕ → Bool
leave bs cs room k out =
    let ws = map (of_bits binary64) bs in
    eqb (outcome_tells (figures_outcome ws cs room)).number k && same (figures_laid ws cs room) out

-- these bytes are read as this ceiling, or are none (15)
abbrev is_of : Numeral → ℕ → Bool
is_of (Some n) k = eqb n k
is_of None k = false

abbrev reads : List ℕ → ℕ → Bool
reads w k = is_of (ceiling_read w) k && eqb (outcome_tells (ceiling_outcome w)).number 0

abbrev is_none : Numeral → Bool
is_none (Some n) = false
is_none None = true

abbrev refused : List ℕ → Bool
refused w = is_none (ceiling_read w) && eqb (outcome_tells (ceiling_outcome w)).number 15

-- 0.25 and 0.75, the double nearest 1/3, 1, the double after 1
abbrev quarter : ℕ
quarter = 0x3fd0_0000_0000_0000

abbrev most : ℕ
most = 0x3fe8_0000_0000_0000

abbrev third : ℕ
third = 0x3fd5_5555_5555_5555

abbrev whole : ℕ
whole = 0x3ff0_0000_0000_0000

abbrev after : ℕ
after = 0x3ff0_0000_0000_0001

abbrev table : List Bool
table =
    -- nobody is above the ceiling: nothing moves, and a ceiling above 1,000,000 binds nobody
    become (500000 ∷ 500000 ∷ []) (500000 ∷ 600000 ∷ []) 0 (500000 ∷ 500000 ∷ [])
    ∷ become (750000 ∷ 250000 ∷ []) (1000000 ∷ 1000000 ∷ []) 0 (750000 ∷ 250000 ∷ [])
    ∷ become (1000000 ∷ []) (18446744073709551615 ∷ []) 0 (1000000 ∷ [])
    -- what is cut goes to the next, or back to one before
    ∷ become (750000 ∷ 250000 ∷ []) (500000 ∷ 600000 ∷ []) 0 (500000 ∷ 500000 ∷ [])
    ∷ become (250000 ∷ 750000 ∷ []) (600000 ∷ 500000 ∷ []) 0 (500000 ∷ 500000 ∷ [])
    -- one may have all, though it had none
    ∷ become (300000 ∷ 700000 ∷ 0 ∷ []) (0 ∷ 0 ∷ 1000000 ∷ []) 0 (0 ∷ 0 ∷ 1000000 ∷ [])
    -- in asset order, and not by room: the second is filled before the two with the most room, the last gets nothing
    ∷ become (800000 ∷ 100000 ∷ 50000 ∷ 50000 ∷ []) (300000 ∷ 200000 ∷ 900000 ∷ 900000 ∷ []) 0 (300000 ∷ 200000 ∷ 450000 ∷ 50000 ∷ [])
    -- ceilings of 1,000,000 in all are the answer; of 999,999: 20
    ∷ become (100000 ∷ 200000 ∷ 700000 ∷ []) (333333 ∷ 333333 ∷ 333334 ∷ []) 0 (333333 ∷ 333333 ∷ 333334 ∷ [])
    ∷ become (100000 ∷ 200000 ∷ 700000 ∷ []) (333333 ∷ 333333 ∷ 333333 ∷ []) 20 (0 ∷ 0 ∷ 0 ∷ [])
    -- 18 before 20, of 999,999, of 1,000,001 and of none; 3 before 18; 9 before 3
    ∷ become (999999 ∷ 0 ∷ []) (0 ∷ 0 ∷ []) 18 (0 ∷ 0 ∷ [])
    ∷ become (1000000 ∷ 1 ∷ []) (1000000 ∷ 1000000 ∷ []) 18 (0 ∷ 0 ∷ [])
    ∷ become [] [] 18 []
    ∷ become (999999 ∷ 0 ∷ []) (0 ∷ []) 3 (0 ∷ 0 ∷ [])
    ∷ become (500000 ∷ 500000 ∷ []) [] 3 (0 ∷ 0 ∷ [])
    ∷ become (replicate 65 0) [] 9 (replicate 65 0)
    -- weights: as they are, cut, none above 0; zeros past the last entry
    ∷ leave (quarter ∷ most ∷ []) [] 3 0 (250000 ∷ 750000 ∷ 0 ∷ [])
    ∷ leave (quarter ∷ most ∷ []) (600000 ∷ 500000 ∷ []) 3 0 (500000 ∷ 500000 ∷ 0 ∷ [])
    ∷ leave (quarter ∷ most ∷ []) (0 ∷ 1000000 ∷ []) 2 0 (0 ∷ 1000000 ∷ [])
    -- "After request 3's rounding": three thirds are 333334, 333333, 333333 first
    ∷ leave (third ∷ third ∷ third ∷ []) (333333 ∷ 333333 ∷ 400000 ∷ []) 3 0 (333333 ∷ 333333 ∷ 333334 ∷ [])
    -- 20; 18 before it, 13 before that, then 3 and 11
    ∷ leave (quarter ∷ most ∷ []) (499999 ∷ 500000 ∷ []) 3 20 (0 ∷ 0 ∷ 0 ∷ [])
    ∷ leave (whole ∷ whole ∷ []) (0 ∷ 0 ∷ []) 2 18 (0 ∷ 0 ∷ [])
    ∷ leave (after ∷ 0x0 ∷ []) (0 ∷ 0 ∷ []) 2 13 (0 ∷ 0 ∷ [])
    ∷ leave (after ∷ 0x0 ∷ []) (0 ∷ []) 2 3 (0 ∷ 0 ∷ [])
    ∷ leave (after ∷ 0x0 ∷ []) (0 ∷ []) 1 11 (0 ∷ [])
    -- "0600000", "600000", "0", "1000000"
    ∷ reads (0x30 ∷ 0x36 ∷ 0x30 ∷ 0x30 ∷ 0x30 ∷ 0x30 ∷ 0x30 ∷ []) 600000
    ∷ reads (0x36 ∷ 0x30 ∷ 0x30 ∷ 0x30 ∷ 0x30 ∷ 0x30 ∷ []) 600000
    ∷ reads (0x30 ∷ []) 0
    ∷ reads (0x31 ∷ 0x30 ∷ 0x30 ∷ 0x30 ∷ 0x30 ∷ 0x30 ∷ 0x30 ∷ []) 1000000
    -- "1000001", "00000001" of 8 digits, "", "-1", "12a"
    ∷ refused (0x31 ∷ 0x30 ∷ 0x30 ∷ 0x30 ∷ 0x30 ∷ 0x30 ∷ 0x31 ∷ [])
    ∷ refused (0x30 ∷ 0x30 ∷ 0x30 ∷ 0x30 ∷ 0x30 ∷ 0x30 ∷ 0x30 ∷ 0x31 ∷ [])
    ∷ refused []
    ∷ refused (0x2d ∷ 0x31 ∷ [])
    ∷ refused (0x31 ∷ 0x32 ∷ 0x61 ∷ [])
    ∷ []

pub examples : all (λ b. b) table ≡ true
unfolding all first tab laid upto over_all digit number is_numeral in_range whole_part left_over whole_at left_at sooner rank_of whole_total missing millionths_at millionths_in out_of_reach millionths_lines kept_at gap_at cut_total left_for capped_at capped_in too_low capped_table capped_outcome capped_laid figures_in figures_lines are_unlike figures_table figures_outcome figures_laid ceiling_of is_ceiling ceiling_read ceiling_outcome of_bits of_fields odd size count_trailing_zeros
examples = refl
