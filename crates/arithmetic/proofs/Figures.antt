-- Figures of document 01's arithmetic, computed by antt as one table: each line is a result's bits beside those that it must have. Assumes nothing.
use Rattle.std.proofs.Common.{◌≡◌, ℕ, Bool, true, not, ◌&&◌, eqb, List, [], ◌∷◌, refl}
use lib.Count.{count_trailing_zeros}
use lib.Ieee.{Float, binary64, size, span, climb, odd, units, round, of_int, div, lt, is_nan, of_fields, of_bits, to_bits}
use Rattle.arithmetic.specs.Arithmetic.{max_of, min_of, clamp_of, abs_of, finite_of, count_of, one_over}
use Rattle.arithmetic.specs.Root.{isqrt, root}

abbrev all : List Bool → Bool
all [] = true
all (b ∷ bs) = b && all bs

abbrev at : ℕ → Float
at b = of_bits binary64 b

-- the result has these bits
abbrev is : Float → ℕ → Bool
is x b = eqb (to_bits binary64 x) b

-- +0
abbrev p0 : ℕ
p0 = 0x0

-- −0
abbrev n0 : ℕ
n0 = 0x8000_0000_0000_0000

-- 1
abbrev one : ℕ
one = 0x3ff0_0000_0000_0000

-- 2
abbrev two : ℕ
two = 0x4000_0000_0000_0000

-- −1
abbrev m1 : ℕ
m1 = 0xbff0_0000_0000_0000

-- infinity
abbrev big : ℕ
big = 0x7ff0_0000_0000_0000

-- −infinity
abbrev low : ℕ
low = 0xfff0_0000_0000_0000

-- NaN
abbrev no : ℕ
no = 0x7ff8_0000_0000_0000

abbrev roots : List Bool
roots =
    is (root (at two)) 0x3ff6_a09e_667f_3bcd
    -- 2^-1074 has the root 2^-537
    ∷ is (root (at 1)) 0x1e60_0000_0000_0000
    -- 4, 3, 0.25, 0.1
    ∷ is (root (at 0x4010_0000_0000_0000)) 0x4000_0000_0000_0000
    ∷ is (root (at 0x4008_0000_0000_0000)) 0x3ffb_b67a_e858_4caa
    ∷ is (root (at 0x3fd0_0000_0000_0000)) 0x3fe0_0000_0000_0000
    ∷ is (root (at 0x3fb9_9999_9999_999a)) 0x3fd4_3d13_6248_490f
    -- the double before 1, 1e308, the largest, a subnormal, the least normal
    ∷ is (root (at 0x3fef_ffff_ffff_ffff)) 0x3fef_ffff_ffff_ffff
    ∷ is (root (at 0x7fe1_ccf3_85eb_c8a0)) 0x5fe7_dddf_6b09_5ff1
    ∷ is (root (at 0x7fef_ffff_ffff_ffff)) 0x5fef_ffff_ffff_ffff
    ∷ is (root (at 0x0008_0000_0000_0001)) 0x1ff6_a09e_667f_3bce
    ∷ is (root (at 0x0010_0000_0000_0000)) 0x2000_0000_0000_0000
    -- themselves, and NaN
    ∷ is (root (at p0)) p0
    ∷ is (root (at n0)) n0
    ∷ is (root (at big)) big
    ∷ is (root (at no)) no
    ∷ is (root (at m1)) no
    ∷ is (root (at low)) no
    ∷ []

abbrev ends : List Bool
ends =
    is (max_of (at one) (at two)) two
    ∷ is (max_of (at two) (at one)) two
    ∷ is (max_of (at no) (at one)) one
    ∷ is (max_of (at one) (at no)) one
    ∷ is (max_of (at no) (at no)) no
    ∷ is (max_of (at p0) (at n0)) p0
    ∷ is (max_of (at n0) (at p0)) n0
    ∷ is (min_of (at one) (at two)) one
    ∷ is (min_of (at two) (at one)) one
    ∷ is (min_of (at no) (at one)) one
    ∷ is (min_of (at one) (at no)) one
    ∷ is (min_of (at no) (at no)) no
    ∷ is (min_of (at p0) (at n0)) p0
    ∷ is (min_of (at n0) (at p0)) n0
    ∷ is (clamp_of (at no) (at p0) (at one)) no
    ∷ is (clamp_of (at n0) (at p0) (at one)) n0
    ∷ is (clamp_of (at two) (at p0) (at one)) one
    ∷ is (clamp_of (at m1) (at p0) (at one)) p0
    ∷ is (clamp_of (at big) (at p0) (at one)) one
    ∷ is (clamp_of (at low) (at p0) (at one)) p0
    ∷ []

abbrev signs : List Bool
signs =
    is (abs_of (at m1)) one
    ∷ is (abs_of (at one)) one
    ∷ is (abs_of (at n0)) p0
    ∷ is (abs_of (at low)) big
    ∷ is (abs_of (at no)) no
    ∷ finite_of (at n0)
    ∷ finite_of (at 0x7fef_ffff_ffff_ffff)
    ∷ not (finite_of (at big))
    ∷ not (finite_of (at low))
    ∷ not (finite_of (at no))
    -- a NaN of another pattern
    ∷ is (at 0xfff0_0000_0000_0001) no
    ∷ []

abbrev counts : List Bool
counts =
    is (count_of 0) p0
    ∷ is (count_of 1) one
    ∷ is (count_of 4096) 0x40b0_0000_0000_0000
    -- past 2^53: a tie goes to the even double
    ∷ is (count_of 0x20_0000_0000_0001) 0x4340_0000_0000_0000
    ∷ is (count_of 0x20_0000_0000_0003) 0x4340_0000_0000_0002
    ∷ is (count_of 0xffff_ffff_ffff_ffff) 0x43f0_0000_0000_0000
    ∷ is (one_over 0) big
    ∷ is (one_over 1) one
    ∷ is (one_over 2) 0x3fe0_0000_0000_0000
    ∷ is (one_over 3) 0x3fd5_5555_5555_5555
    ∷ is (one_over 64) 0x3f90_0000_0000_0000
    ∷ []

pub figures : all roots && all ends && all signs && all counts ≡ true
unfolding root isqrt max_of min_of clamp_of abs_of finite_of count_of one_over lt is_nan of_int div round units odd count_trailing_zeros size span climb of_fields of_bits to_bits
figures = refl
