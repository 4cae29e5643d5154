-- Figures of sharing out by halves, computed by antt as one table: each line is a call's answer and buffer beside those that it must have. Assumes nothing.
use mathlib.Core.Path.{◌≡◌, refl}
use mathlib.Core.Bool.{Bool, true, false, ◌&&◌}
use mathlib.Core.List.{List, [], ◌∷◌}
use Prim.Native.Nat.{ℕ}
use lib.Count.{count_trailing_zeros}
use lib.Dec.{eqb}
use lib.Ieee.{Float, binary64, size, span, climb, odd, units, round, add, sum, sub, neg, mul, div, lt, le, is_nan, of_fields, of_bits, to_bits}
use Rattle.arithmetic.specs.Arithmetic.{max_of}
use Rattle.refusal.specs.Refusal.{number_of}
use Rattle.refusal.specs.Table.{first}
use Rattle.lent.specs.Count.{count}
use Rattle.lent.specs.Grid.{tab, sum_to, sum_on, sum_rows, any_to}
use Rattle.lent.specs.Lent.{over_limit, other_length, sizes, laid, answer_of, Answer}
use Rattle.tree.specs.Rows.{once, is_order}
use Rattle.clusters.specs.Clusters.{recip, recip_sum, shares, term, variance_of, outside, any_listed_low, risk_table, size_table, variance_outcome, variance_answer}
use Rattle.clusters.specs.Shares.{is_none, weights_in}
use Rattle.bisection.specs.Bisection.{factor_of, sides_factor, halved, bisected, normal, bisection_shares, bisection_given, bisection_table, bisection_outcome, bisection_answer, bisection_weights}
use Rattle.std.specs.Prelude.{Ok, Err}

abbrev all : List Bool → Bool
all [] = true
all (b ∷ bs) = b && all bs

abbrev same : List ℕ → List ℕ → Bool
same [] [] = true
same [] (b ∷ bs) = false
same (a ∷ l) [] = false
same (a ∷ l) (b ∷ bs) = eqb a b && same l bs

abbrev doubles : List ℕ → List Float
doubles [] = []
doubles (b ∷ bs) = of_bits binary64 b ∷ doubles bs

abbrev bits : List Float → List ℕ
bits [] = []
bits (x ∷ l) = to_bits binary64 x ∷ bits l

-- 0, or the refusal's number
abbrev of_answer : Answer → ℕ
of_answer (Ok s) = 0
of_answer (Err r) = number_of r

-- the number, and a buffer of `room` entries
abbrev weights : List ℕ → ℕ → ℕ → List ℕ → ℕ → List ℕ
weights cov rows w order room = of_answer (bisection_answer (doubles cov) rows w order room) ∷ bits (bisection_weights (doubles cov) rows w order room)

abbrev p0 : ℕ
p0 = 0x0

-- 1/4, 1/2, 3/4, 1, 2, 3, -1
abbrev quarter : ℕ
quarter = 0x3fd0_0000_0000_0000

abbrev mid : ℕ
mid = 0x3fe0_0000_0000_0000

abbrev most : ℕ
most = 0x3fe8_0000_0000_0000

abbrev one : ℕ
one = 0x3ff0_0000_0000_0000

abbrev two : ℕ
two = 0x4000_0000_0000_0000

abbrev three : ℕ
three = 0x4008_0000_0000_0000

abbrev minus : ℕ
minus = 0xbff0_0000_0000_0000

-- 2^-60, infinity, NaN
abbrev tiny : ℕ
tiny = 0x3c30_0000_0000_0000

abbrev big : ℕ
big = 0x7ff0_0000_0000_0000

abbrev no : ℕ
no = 0x7ff8_0000_0000_0000

-- a covariance of two assets, and of three, 0 off its diagonal
abbrev diagonal : ℕ → ℕ → List ℕ
diagonal a b = a ∷ p0 ∷ p0 ∷ b ∷ []

abbrev diagonal3 : ℕ → ℕ → ℕ → List ℕ
diagonal3 a b c = a ∷ p0 ∷ p0 ∷ p0 ∷ b ∷ p0 ∷ p0 ∷ p0 ∷ c ∷ []

abbrev both : List ℕ
both = 0 ∷ 1 ∷ []

abbrev figure_list : List Bool
figure_list =
    -- (1, 3), also in a buffer with an entry to spare
    same (weights (diagonal one three) 2 2 both 2) (0 ∷ most ∷ quarter ∷ [])
    ∷ same (weights (diagonal one three) 2 2 (1 ∷ 0 ∷ []) 3) (0 ∷ most ∷ quarter ∷ p0 ∷ [])
    -- (NaN, 1), and (infinity, 1): a side's reciprocals sum to 0
    ∷ same (weights (diagonal no one) 2 2 both 2) (0 ∷ one ∷ p0 ∷ [])
    ∷ same (weights (diagonal big one) 2 2 both 2) (1 ∷ p0 ∷ p0 ∷ [])
    -- the right side is refused as the left is
    ∷ same (weights (diagonal one p0) 2 2 both 2) (1 ∷ p0 ∷ p0 ∷ [])
    -- EPSILON counts: (2^-60, 2^-60)
    ∷ same (weights (diagonal tiny tiny) 2 2 both 2) (0 ∷ 0x3fef_e03f_80fe_03f8 ∷ 0x3f6f_c07f_01fc_0800 ∷ [])
    -- the left part of three is one asset: (1), then (2, 2)
    ∷ same (weights (diagonal3 one two two) 3 3 (0 ∷ 1 ∷ 2 ∷ []) 3) (0 ∷ mid ∷ quarter ∷ quarter ∷ [])
    ∷ same (weights (diagonal3 two two one) 3 3 (2 ∷ 0 ∷ 1 ∷ []) 3) (0 ∷ quarter ∷ quarter ∷ mid ∷ [])
    -- an asset alone is not read: infinity, -1
    ∷ same (weights (big ∷ []) 1 1 (0 ∷ []) 1) (0 ∷ one ∷ [])
    ∷ same (weights (minus ∷ []) 1 1 (0 ∷ []) 1) (0 ∷ one ∷ [])
    -- no asset: 14 before 1
    ∷ same (weights [] 0 0 [] 1) (1 ∷ p0 ∷ [])
    ∷ same (weights [] 0 0 (0 ∷ []) 1) (14 ∷ p0 ∷ [])
    -- an asset twice, an asset too few, asset 2 of 2
    ∷ same (weights (diagonal one three) 2 2 (0 ∷ 0 ∷ []) 2) (14 ∷ p0 ∷ p0 ∷ [])
    ∷ same (weights (diagonal one three) 2 2 (0 ∷ []) 2) (14 ∷ p0 ∷ p0 ∷ [])
    ∷ same (weights (diagonal one three) 2 2 (1 ∷ 2 ∷ []) 2) (14 ∷ p0 ∷ p0 ∷ [])
    -- 11 before 3, 3 before 14
    ∷ same (weights (one ∷ one ∷ []) 1 2 both 1) (11 ∷ p0 ∷ [])
    ∷ same (weights (one ∷ one ∷ []) 1 2 (7 ∷ []) 2) (3 ∷ p0 ∷ p0 ∷ [])
    ∷ same (weights (one ∷ []) 2 2 both 1) (10 ∷ p0 ∷ [])
    ∷ same (weights [] 65 65 [] 0) (9 ∷ [])
    ∷ []

pub figures : all figure_list ≡ true
unfolding factor_of sides_factor halved bisected normal bisection_shares bisection_given bisection_table bisection_outcome bisection_answer bisection_weights is_none weights_in recip recip_sum shares term variance_of outside any_listed_low risk_table size_table variance_outcome variance_answer is_order once count first tab sum_to sum_on sum_rows any_to over_limit other_length sizes laid answer_of max_of lt le is_nan add sum sub neg mul div round units odd count_trailing_zeros size span climb of_fields of_bits to_bits
figures = refl
