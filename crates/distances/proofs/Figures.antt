-- Figures of distances, computed by antt as one table: each line is a result's bits beside those that it must have. Assumes nothing.
use mathlib.Core.Path.{◌≡◌, refl}
use mathlib.Core.Bool.{Bool, true, false, ◌&&◌}
use mathlib.Core.List.{List, [], ◌∷◌}
use Prim.Native.Nat.{ℕ}
use lib.Count.{count_trailing_zeros}
use lib.Dec.{eqb}
use lib.Ieee.{Float, binary64, size, span, climb, odd, units, round, neg, add, sum, sub, mul, div, lt, is_nan, of_fields, of_bits, to_bits}
use Rattle.arithmetic.specs.Arithmetic.{max_of, clamp_of}
use Rattle.arithmetic.specs.Root.{isqrt, root}
use Rattle.refusal.specs.Table.{first}
use Rattle.lent.specs.Grid.{tab, grid, sum_to}
use Rattle.lent.specs.Lent.{over_limit, other_length, sizes, squares, laid}
use Rattle.distances.specs.declared.Measure.{Measure}
use Rattle.distances.specs.declared.Measure.TheVariants.{Hrp, Hcaa}
use Rattle.distances.specs.Distances.{clamped, distance_of, distance_cell, distance_outcome, distances, off_diagonal, square, between, between_cell, betweens}

abbrev all : List Bool → Bool
all [] = true
all (b ∷ bs) = b && all bs

abbrev at : ℕ → Float
at b = of_bits binary64 b

-- the results have these bits
abbrev are : List Float → List ℕ → Bool
are [] [] = true
are [] (b ∷ bs) = false
are (x ∷ xs) [] = false
are (x ∷ xs) (b ∷ bs) = eqb (to_bits binary64 x) b && are xs bs

-- +0
abbrev p0 : ℕ
p0 = 0x0

-- 1
abbrev one : ℕ
one = 0x3ff0_0000_0000_0000

-- −1
abbrev m1 : ℕ
m1 = 0xbff0_0000_0000_0000

-- 2
abbrev two : ℕ
two = 0x4000_0000_0000_0000

-- −3
abbrev m3 : ℕ
m3 = 0xc008_0000_0000_0000

-- NaN
abbrev no : ℕ
no = 0x7ff8_0000_0000_0000

-- √(1/2)
abbrev root_half : ℕ
root_half = 0x3fe6_a09e_667f_3bcd

-- √2
abbrev root_two : ℕ
root_two = 0x3ff6_a09e_667f_3bcd

-- of the correlations 1, −1, 0, 2, −3 and NaN
abbrev of_each : Measure → List Float
of_each m = distance_of m (at one) ∷ distance_of m (at m1) ∷ distance_of m (at p0) ∷ distance_of m (at two) ∷ distance_of m (at m3) ∷ distance_of m (at no) ∷ []

-- a square matrix of such bits
abbrev matrix : List ℕ → List Float
matrix [] = []
matrix (b ∷ bs) = at b ∷ matrix bs

abbrev figure_list : List Bool
figure_list =
    are (of_each Hrp) (p0 ∷ one ∷ root_half ∷ p0 ∷ one ∷ p0 ∷ [])
    ∷ are (of_each Hcaa) (p0 ∷ two ∷ root_two ∷ p0 ∷ two ∷ p0 ∷ [])
    -- 2 by 2, in a buffer with an entry to spare
    ∷ are (distances Hrp (matrix (one ∷ p0 ∷ m1 ∷ one ∷ [])) 2 2 5) (p0 ∷ root_half ∷ one ∷ p0 ∷ p0 ∷ [])
    -- not square: refused, and all zeros
    ∷ are (distances Hcaa (matrix (one ∷ m1 ∷ [])) 1 2 4) (p0 ∷ p0 ∷ p0 ∷ p0 ∷ [])
    -- columns (0, 1) and (1, 0) are √2 apart, whatever stands on the diagonal
    ∷ are (betweens (matrix (p0 ∷ one ∷ one ∷ p0 ∷ [])) 2 2 5) (p0 ∷ root_two ∷ root_two ∷ p0 ∷ p0 ∷ [])
    ∷ are (betweens (matrix (no ∷ one ∷ one ∷ no ∷ [])) 2 2 4) (p0 ∷ root_two ∷ root_two ∷ p0 ∷ [])
    -- columns (0, 2) and (1, 0): √5, the differences down the columns
    ∷ are (betweens (matrix (no ∷ one ∷ two ∷ no ∷ [])) 2 2 4) (p0 ∷ 0x4001_e377_9b97_f4a8 ∷ 0x4001_e377_9b97_f4a8 ∷ p0 ∷ [])
    -- a NaN off the diagonal stays
    ∷ are (betweens (matrix (p0 ∷ no ∷ one ∷ p0 ∷ [])) 2 2 4) (p0 ∷ no ∷ no ∷ p0 ∷ [])
    ∷ are (betweens [] 0 0 1) (p0 ∷ [])
    ∷ []

pub figures : all figure_list ≡ true
unfolding clamped distance_of distance_cell distance_outcome distances off_diagonal square between between_cell betweens first tab grid sum_to over_limit other_length sizes squares laid max_of clamp_of root isqrt lt is_nan neg add sum sub mul div round units odd count_trailing_zeros size span climb of_fields of_bits to_bits
figures = refl
