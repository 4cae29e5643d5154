-- Figures of places and of mirrors, computed by antt as one table: each line is an answer beside the one that it must be. Assumes nothing.
use mathlib.Core.Path.{◌≡◌, refl}
use mathlib.Core.Bool.{Bool, true, false, not, ◌&&◌}
use mathlib.Core.List.{List, [], ◌∷◌}
use Prim.Native.Nat.{ℕ}
use lib.Dec.{eqb}
use lib.Ieee.{Float, binary64, of_fields, of_bits, to_bits}
use Rattle.lent.specs.Grid.{zeros}
use Rattle.lent.specs.Range.{span, range}
use Rattle.triangle.specs.declared.Form.TheVariants.{Square, Triangle}
use Rattle.triangle.specs.Triangle.{met, row_of, place_of, shift_at, is_mirror, mirror_row, mirrored, has_room, upper_row, upper_of}

abbrev all : List Bool → Bool
all [] = true
all (b ∷ bs) = b && all bs

-- the results have these bits
abbrev are : List Float → List ℕ → Bool
are [] [] = true
are [] (b ∷ bs) = false
are (x ∷ xs) [] = false
are (x ∷ xs) (b ∷ bs) = eqb (to_bits binary64 x) b && are xs bs

-- a matrix of such bits
abbrev matrix : List ℕ → List Float
matrix [] = []
matrix (b ∷ bs) = of_bits binary64 b ∷ matrix bs

-- +0
abbrev p0 : ℕ
p0 = 0x0

-- −0
abbrev m0 : ℕ
m0 = 0x8000_0000_0000_0000

-- 1
abbrev one : ℕ
one = 0x3ff0_0000_0000_0000

-- the double after 1
abbrev next : ℕ
next = 0x3ff0_0000_0000_0001

-- 2
abbrev two : ℕ
two = 0x4000_0000_0000_0000

-- −3
abbrev m3 : ℕ
m3 = 0xc008_0000_0000_0000

-- NaN, and another of its patterns
abbrev no : ℕ
no = 0x7ff8_0000_0000_0000

abbrev no' : ℕ
no' = 0xfff0_0000_0000_0001

-- of 4: row by row above the diagonal, and a mirror stands where its cell does
abbrev places : List Bool
places =
    eqb (place_of Triangle 4 0 1) 0
    ∷ eqb (place_of Triangle 4 0 2) 1
    ∷ eqb (place_of Triangle 4 0 3) 2
    ∷ eqb (place_of Triangle 4 1 2) 3
    ∷ eqb (place_of Triangle 4 1 3) 4
    ∷ eqb (place_of Triangle 4 2 3) 5
    ∷ eqb (place_of Triangle 4 1 0) 0
    ∷ eqb (place_of Triangle 4 2 0) 1
    ∷ eqb (place_of Triangle 4 3 0) 2
    ∷ eqb (place_of Triangle 4 2 1) 3
    ∷ eqb (place_of Triangle 4 3 1) 4
    ∷ eqb (place_of Triangle 4 3 2) 5
    -- of 64: the last place, and how many there are
    ∷ eqb (place_of Triangle 64 63 62) 2015
    ∷ eqb (met 64 64) 2016
    ∷ []

-- of 4, in both forms: the place right of the diagonal, less r
abbrev shifts : List Bool
shifts =
    eqb (shift_at Square 4 0) 1
    ∷ eqb (shift_at Square 4 1) 5
    ∷ eqb (shift_at Square 4 2) 9
    ∷ eqb (shift_at Square 4 3) 13
    ∷ eqb (shift_at Triangle 4 0) 0
    ∷ eqb (shift_at Triangle 4 1) 2
    ∷ eqb (shift_at Triangle 4 2) 3
    ∷ eqb (shift_at Triangle 4 3) 3
    ∷ []

-- 2 by 2, by its bits
abbrev two_by : ℕ → ℕ → Bool
two_by x y = mirrored 2 (matrix (one ∷ x ∷ y ∷ two ∷ []))

abbrev mirrors : List Bool
mirrors =
    two_by m3 m3
    ∷ not (two_by one next)
    ∷ two_by no no
    ∷ two_by no no'
    ∷ not (two_by no one)
    ∷ not (two_by one no)
    ∷ not (two_by p0 m0)
    -- the diagonal is not looked at, nor is there anything to look at in one cell or none
    ∷ mirrored 1 (matrix (no ∷ []))
    ∷ mirrored 0 []
    -- 3 by 3, off in the first row's last cell, and in the second row alone
    ∷ mirrored 3 (matrix (p0 ∷ one ∷ two ∷ one ∷ p0 ∷ m3 ∷ two ∷ m3 ∷ p0 ∷ []))
    ∷ not (mirrored 3 (matrix (p0 ∷ one ∷ two ∷ one ∷ p0 ∷ m3 ∷ one ∷ m3 ∷ p0 ∷ [])))
    ∷ not (mirrored 3 (matrix (p0 ∷ one ∷ two ∷ one ∷ p0 ∷ m3 ∷ two ∷ two ∷ p0 ∷ [])))
    ∷ []

-- the cells above the diagonal, into zeros
abbrev copies : List Bool
copies =
    are (upper_of 3 (matrix (p0 ∷ one ∷ two ∷ no ∷ p0 ∷ m3 ∷ no ∷ no ∷ p0 ∷ [])) (zeros 3)) (one ∷ two ∷ m3 ∷ [])
    -- one entry to spare
    ∷ are (upper_of 3 (matrix (p0 ∷ one ∷ two ∷ no ∷ p0 ∷ m3 ∷ no ∷ no ∷ p0 ∷ [])) (zeros 4)) (one ∷ two ∷ m3 ∷ p0 ∷ [])
    ∷ are (upper_of 1 (matrix (one ∷ [])) (zeros 1)) (p0 ∷ [])
    -- a matrix of another length, no room, one cell, which needs none, and more than 64
    ∷ has_room 3 (zeros 9) (zeros 3)
    ∷ not (has_room 3 (zeros 8) (zeros 3))
    ∷ not (has_room 3 (zeros 9) (zeros 2))
    ∷ has_room 1 (zeros 1) []
    ∷ has_room 64 (zeros 4096) (zeros 2016)
    ∷ not (has_room 65 (zeros 4225) (zeros 2080))
    ∷ []

pub figures : all places && all shifts && all mirrors && all copies ≡ true
unfolding met row_of place_of shift_at is_mirror mirror_row mirrored has_room upper_row upper_of range span of_fields of_bits to_bits
figures = refl
