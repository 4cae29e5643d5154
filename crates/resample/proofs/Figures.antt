-- Figures of sampling and of returns, computed by antt as one table. Assumes nothing.
use Prim.Native.Nat.{ℕ}
use mathlib.Core.Path.{◌≡◌, refl}
use mathlib.Core.Bool.{Bool, true, false, ◌&&◌}
use mathlib.Core.List.{List, [], ◌∷◌}
use lib.Count.{count_trailing_zeros}
use lib.Dec.{eqb}
use lib.Ieee.{Float, binary64, size, span, climb, odd, units, round, add, sub, div, eq, of_fields, of_bits, to_bits}
use Rattle.arithmetic.specs.Constants.{pz, unit, two}
use Rattle.refusal.specs.Refusal.{number_of}
use Rattle.refusal.specs.Table.{first, Outcome}
use Rattle.lent.specs.Grid.{tab, grid, any_to}
use Rattle.lent.specs.Lent.{over_limit, other_length, sizes, laid}
use Rattle.text.specs.Bytes.{bytes, same, lower, lowered, is_word}
use Rattle.resample.specs.Resample.{is_weekly, is_monthly, step_of, keeps_all, kept_rows, kept_row, sampled_cell, sampling_table, sampling_outcome, sampled_prices, return_cell, zero_met, returns_table, returns_outcome, returns_of}
use Rattle.std.specs.Prelude.{Ok, Err}

abbrev all : List Bool → Bool
all [] = true
all (b ∷ bs) = b && all bs

-- the number of a refusal, and 0 where there is none
abbrev number : Outcome → ℕ
number (Ok _) = 0
number (Err r) = number_of r

-- these are the bits of the doubles
abbrev have : List Float → List ℕ → Bool
have [] [] = true
have [] (b ∷ bs) = false
have (x ∷ xs) [] = false
have (x ∷ xs) (b ∷ bs) = eqb (to_bits binary64 x) b && have xs bs

-- "`w`, `week`, `weekly` step 5; `m`, `month`, `monthly` step 21 (any case); else 1"
abbrev steps : List Bool
steps =
    eqb (step_of (bytes "W")) 5
    ∷ eqb (step_of (bytes "weekly")) 5
    ∷ eqb (step_of (bytes "Month")) 21
    ∷ eqb (step_of (bytes "x")) 1
    ∷ eqb (step_of (bytes "")) 1
    ∷ []

-- "Monthly: 20 rows keep 20; 21 keep row 20 (then 1); 42 keep rows 20, 41"
abbrev rows : List Bool
rows =
    eqb (kept_rows 20 21) 20
    ∷ eqb (kept_row 20 21 0) 0
    ∷ eqb (kept_row 20 21 19) 19
    ∷ eqb (kept_rows 21 21) 1
    ∷ eqb (kept_row 21 21 0) 20
    ∷ eqb (number (returns_outcome (unit ∷ []) (kept_rows 21 21) 1 0)) 1
    ∷ eqb (kept_rows 42 21) 2
    ∷ eqb (kept_row 42 21 0) 20
    ∷ eqb (kept_row 42 21 1) 41
    -- a step of 0 or 1 keeps all
    ∷ eqb (kept_rows 42 0) 42
    ∷ eqb (kept_row 42 0 41) 41
    ∷ eqb (kept_rows 42 1) 42
    ∷ eqb (kept_row 42 1 41) 41
    ∷ []

-- prices 1, 2, 1 of one asset, in a buffer of 3
abbrev answers : List Bool
answers =
    have (sampled_prices (unit ∷ two ∷ unit ∷ []) 3 1 2 3) (0x4000_0000_0000_0000 ∷ 0 ∷ 0 ∷ [])
    ∷ have (returns_of (unit ∷ two ∷ unit ∷ []) 3 1 3) (0x3ff0_0000_0000_0000 ∷ 0xbfe0_0000_0000_0000 ∷ 0 ∷ [])
    -- a zero is met as a denominator, and not in the last row
    ∷ eqb (number (returns_outcome (unit ∷ pz ∷ unit ∷ []) 3 1 3)) 1
    ∷ eqb (number (returns_outcome (unit ∷ two ∷ pz ∷ []) 3 1 3)) 0
    -- too many rows, another length, too little room
    ∷ eqb (number (returns_outcome [] 4097 0 0)) 9
    ∷ eqb (number (returns_outcome (unit ∷ []) 3 1 0)) 10
    ∷ eqb (number (returns_outcome (unit ∷ two ∷ unit ∷ []) 3 1 1)) 11
    ∷ eqb (number (sampling_outcome (unit ∷ two ∷ unit ∷ []) 3 1 0 2)) 11
    ∷ []

pub figures : all steps && all rows && all answers ≡ true
unfolding step_of is_weekly is_monthly is_word same lowered lower keeps_all kept_rows kept_row sampled_cell sampling_table sampling_outcome sampled_prices return_cell zero_met returns_table returns_outcome returns_of tab grid any_to over_limit other_length sizes laid first add sub div eq round units odd count_trailing_zeros size span climb of_fields of_bits to_bits
figures = refl
