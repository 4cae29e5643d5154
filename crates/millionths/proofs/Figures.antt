-- Figures of document 02, request 3, computed by antt as one table. Assumes nothing.
use Prim.Native.Nat.{ℕ}
use mathlib.Core.Path.{◌≡◌, refl}
use mathlib.Core.Bool.{Bool, true, false, ◌&&◌}
use mathlib.Core.List.{List, [], ◌∷◌, map}
use lib.Dec.{eqb}
use lib.Count.{count_trailing_zeros}
use lib.Ieee.{binary64, size, odd, of_fields, of_bits}
use Rattle.fields.specs.Split.{all}
use Rattle.refusal.specs.Table.{first}
use Rattle.refusal.specs.Telling.{outcome_tells}
use Rattle.lent.specs.Count.{upto}
use Rattle.lent.specs.Grid.{tab}
use Rattle.lent.specs.Lent.{laid}
use Rattle.fractions.specs.Fractions.{in_range, whole_part, left_over, whole_at, left_at, sooner, rank_of}
use Rattle.millionths.specs.Millionths.{whole_total, missing, millionths_at, millionths_in, out_of_reach, millionths_lines, millionths_table, millionths_outcome, millionths_laid}

abbrev same : List ℕ → List ℕ → Bool
same [] [] = true
same [] (y ∷ l) = false
same (x ∷ k) [] = false
same (x ∷ k) (y ∷ l) = eqb x y && same k l

-- the weights of these bits, in a buffer of so much room, are answered by this number and leave these
abbrev gives : List ℕ → ℕ → ℕ → List ℕ → Bool
gives bs room k out =
    let ws = map (of_bits binary64) bs in
    eqb (outcome_tells (millionths_outcome ws room)).number k && same (millionths_laid ws room) out

-- 0.25, the double nearest 1/3, 0.5, twice that of 1/3, 1
abbrev quarter : ℕ
quarter = 0x3fd0_0000_0000_0000

abbrev third : ℕ
third = 0x3fd5_5555_5555_5555

abbrev half : ℕ
half = 0x3fe0_0000_0000_0000

abbrev thirds : ℕ
thirds = 0x3fe5_5555_5555_5555

abbrev whole : ℕ
whole = 0x3ff0_0000_0000_0000

-- the double before 1 and the one after it
abbrev before : ℕ
before = 0x3fef_ffff_ffff_ffff

abbrev after : ℕ
after = 0x3ff0_0000_0000_0001

abbrev table : List Bool
table =
    -- "three thirds": the lower number on a tie; and zeros past the last entry
    gives (third ∷ third ∷ third ∷ []) 3 0 (333334 ∷ 333333 ∷ 333333 ∷ [])
    ∷ gives (third ∷ third ∷ third ∷ []) 5 0 (333334 ∷ 333333 ∷ 333333 ∷ 0 ∷ 0 ∷ [])
    -- nothing is missing
    ∷ gives (quarter ∷ quarter ∷ half ∷ []) 3 0 (250000 ∷ 250000 ∷ 500000 ∷ [])
    -- the larger fraction first: a third leaves .33, two thirds.67
    ∷ gives (third ∷ thirds ∷ []) 2 0 (333333 ∷ 666667 ∷ [])
    -- 2^-1074 leaves more than 0 does, and less than the double before 1
    ∷ gives (before ∷ 0x0 ∷ 0x1 ∷ []) 3 0 (1000000 ∷ 0 ∷ 0 ∷ [])
    -- −0 beside 1
    ∷ gives (0x8000_0000_0000_0000 ∷ whole ∷ []) 2 0 (0 ∷ 1000000 ∷ [])
    -- all zeros, no assets, 1 with 1
    ∷ gives (0x0 ∷ 0x0 ∷ 0x8000_0000_0000_0000 ∷ []) 3 18 (0 ∷ 0 ∷ 0 ∷ [])
    ∷ gives [] 2 18 (0 ∷ 0 ∷ [])
    ∷ gives (whole ∷ whole ∷ []) 2 18 (0 ∷ 0 ∷ [])
    -- 13 before 18, 11 before 13; NaN, −2^-1074
    ∷ gives (after ∷ 0x0 ∷ []) 2 13 (0 ∷ 0 ∷ [])
    ∷ gives (after ∷ 0x0 ∷ []) 1 11 (0 ∷ [])
    ∷ gives (0x7ff8_0000_0000_0000 ∷ []) 1 13 (0 ∷ [])
    ∷ gives (whole ∷ 0x8000_0000_0000_0001 ∷ []) 2 13 (0 ∷ 0 ∷ [])
    ∷ []

pub figures : all (λ b. b) table ≡ true
unfolding all first tab laid upto in_range whole_part left_over whole_at left_at sooner rank_of whole_total missing millionths_at millionths_in out_of_reach millionths_lines millionths_table millionths_outcome millionths_laid of_bits of_fields odd size count_trailing_zeros
figures = refl
