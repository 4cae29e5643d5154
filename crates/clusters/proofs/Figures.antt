-- Figures of weights, variances and ratios, computed by antt as one table: each line is a call's answer beside the one that it must have. Assumes nothing.
use mathlib.Core.Path.{◌≡◌, refl}
use mathlib.Core.Bool.{Bool, true, false, ◌&&◌}
use mathlib.Core.List.{List, [], ◌∷◌}
use Prim.Native.Nat.{ℕ}
use lib.Count.{count_trailing_zeros}
use lib.Dec.{eqb}
use lib.ListN.{replicate}
use lib.Ieee.{Float, binary64, size, span, climb, odd, units, round, add, sum, mul, div, lt, le, is_nan, of_fields, of_bits, to_bits}
use Rattle.arithmetic.specs.Arithmetic.{max_of}
use Rattle.arithmetic.specs.Root.{isqrt, root}
use Rattle.refusal.specs.Refusal.{number_of}
use Rattle.refusal.specs.Table.{first}
use Rattle.lent.specs.Grid.{tab, sum_to, sum_on, sum_rows, any_to}
use Rattle.lent.specs.Lent.{over_limit, other_length, laid, answer_of, Answer}
use Rattle.clusters.specs.Clusters.{recip, recip_sum, shares, term, variance_of, expectation, ratio, ratio_of, outside, any_listed_low, risk_table, size_table, shares_outcome, shares_answer, shares_laid, variance_outcome, variance_answer, sharpe_outcome, sharpe_answer}
use Rattle.std.specs.Prelude.{Ok, Err}
use Rattle.clusters.specs.Outcomes.{Risk}

abbrev all : List Bool → Bool
all [] = true
all (b ∷ bs) = b && all bs

abbrev same : List ℕ → List ℕ → Bool
same [] [] = true
same [] (b ∷ bs) = false
same (a ∷ l) [] = false
same (a ∷ l) (b ∷ bs) = eqb a b && same l bs

abbrev doubles : List ℕ → List Float
doubles [] = []
doubles (b ∷ bs) = of_bits binary64 b ∷ doubles bs

abbrev bits : List Float → List ℕ
bits [] = []
bits (x ∷ l) = to_bits binary64 x ∷ bits l

-- 0, or the refusal's number
abbrev of_answer : Answer → ℕ
of_answer (Ok s) = 0
of_answer (Err r) = number_of r

abbrev of_risk : Risk → List ℕ
of_risk (Ok x) = 0 ∷ to_bits binary64 x ∷ []
of_risk (Err r) = number_of r ∷ []

-- the number, and a buffer of `room` entries
abbrev weights : List ℕ → ℕ → ℕ → List ℕ → ℕ → List ℕ
weights cov rows w assets room = of_answer (shares_answer (doubles cov) rows w assets room) ∷ bits (shares_laid (doubles cov) rows w assets room)

abbrev variance : List ℕ → ℕ → ℕ → List ℕ → List ℕ
variance cov rows w assets = of_risk (variance_answer (doubles cov) rows w assets)

abbrev sharpe : List ℕ → List ℕ → ℕ → ℕ → List ℕ → List ℕ
sharpe expected cov rows w assets = of_risk (sharpe_answer (doubles expected) (doubles cov) rows w assets)

abbrev p0 : ℕ
p0 = 0x0

-- 1/4, 1/2, 3/4, 1, 1 1/2, 2, 3, 4, 5
abbrev quarter : ℕ
quarter = 0x3fd0_0000_0000_0000

abbrev half : ℕ
half = 0x3fe0_0000_0000_0000

abbrev most : ℕ
most = 0x3fe8_0000_0000_0000

abbrev one : ℕ
one = 0x3ff0_0000_0000_0000

abbrev middling : ℕ
middling = 0x3ff8_0000_0000_0000

abbrev two : ℕ
two = 0x4000_0000_0000_0000

abbrev three : ℕ
three = 0x4008_0000_0000_0000

abbrev four : ℕ
four = 0x4010_0000_0000_0000

abbrev five : ℕ
five = 0x4014_0000_0000_0000

-- infinity, NaN
abbrev big : ℕ
big = 0x7ff0_0000_0000_0000

abbrev no : ℕ
no = 0x7ff8_0000_0000_0000

-- a covariance of two assets, 0 off its diagonal
abbrev diagonal : ℕ → ℕ → List ℕ
diagonal a b = a ∷ p0 ∷ p0 ∷ b ∷ []

abbrev both : List ℕ
both = 0 ∷ 1 ∷ []

abbrev figure_list : List Bool
figure_list =
    -- (1, 3), in a buffer with an entry to spare
    same (weights (diagonal one three) 2 2 both 3) (0 ∷ most ∷ quarter ∷ p0 ∷ [])
    ∷ same (weights (diagonal one three) 2 2 (1 ∷ 0 ∷ []) 2) (0 ∷ quarter ∷ most ∷ [])
    -- a NaN variance passes, and makes every weight NaN
    ∷ same (weights (diagonal no one) 2 2 both 2) (0 ∷ no ∷ no ∷ [])
    -- reciprocals that sum to 0, no asset, a variance of 0: 1
    ∷ same (weights (diagonal big big) 2 2 both 2) (1 ∷ p0 ∷ p0 ∷ [])
    ∷ same (weights (diagonal one three) 2 2 [] 1) (1 ∷ p0 ∷ [])
    ∷ same (weights (diagonal one p0) 2 2 both 2) (1 ∷ p0 ∷ p0 ∷ [])
    -- asset 2 of 2 before a variance of 0: 14
    ∷ same (weights (diagonal p0 one) 2 2 (0 ∷ 2 ∷ []) 2) (14 ∷ p0 ∷ p0 ∷ [])
    -- 11 before 3, 3 before 14
    ∷ same (weights (one ∷ one ∷ []) 1 2 both 1) (11 ∷ p0 ∷ [])
    ∷ same (weights (one ∷ one ∷ []) 1 2 (7 ∷ []) 1) (3 ∷ p0 ∷ [])
    ∷ same (weights (one ∷ []) 2 2 both 2) (10 ∷ p0 ∷ p0 ∷ [])
    ∷ same (weights (diagonal one three) 2 2 (replicate 65 0) 0) (9 ∷ [])
    -- 3/4 · 3/4 + 1/4 · 3 · 1/4
    ∷ same (variance (diagonal one three) 2 2 both) (0 ∷ most ∷ [])
    -- both triangles are read: (1 + 2 + 5 + 1) / 4
    ∷ same (variance (one ∷ two ∷ five ∷ one ∷ []) 2 2 both) (0 ∷ 0x4002_0000_0000_0000 ∷ [])
    -- three correlated assets: (w_i·cov_ij)·w_j, where w_i·(cov_ij·w_j) and (w_i·w_j)·cov_ij would end in 9
    ∷ same (variance (one ∷ quarter ∷ middling ∷ quarter ∷ two ∷ half ∷ middling ∷ half ∷ three ∷ []) 3 3 (0 ∷ 1 ∷ 2 ∷ [])) (0 ∷ 0x3fee_f130_a941_9638 ∷ [])
    -- a NaN covariance gives 0
    ∷ same (variance (one ∷ no ∷ no ∷ one ∷ []) 2 2 both) (0 ∷ p0 ∷ [])
    ∷ same (variance (one ∷ no ∷ no ∷ one ∷ []) 2 2 (0 ∷ 2 ∷ [])) (14 ∷ [])
    ∷ same (variance (diagonal one three) 2 2 (replicate 65 0)) (9 ∷ [])
    -- (3/4 · 2 + 1/4 · 4) / √(3/4), in either order, and 4 / √3
    ∷ same (sharpe (two ∷ four ∷ []) (diagonal one three) 2 2 both) (0 ∷ 0x4007_1811_16f4_3fe4 ∷ [])
    ∷ same (sharpe (two ∷ four ∷ []) (diagonal one three) 2 2 (1 ∷ 0 ∷ [])) (0 ∷ 0x4007_1811_16f4_3fe4 ∷ [])
    ∷ same (sharpe (two ∷ four ∷ []) (diagonal one three) 2 2 (1 ∷ [])) (0 ∷ 0x4002_79a7_4590_331d ∷ [])
    -- a variance of 0 gives 0
    ∷ same (sharpe (two ∷ four ∷ []) (one ∷ no ∷ no ∷ one ∷ []) 2 2 both) (0 ∷ p0 ∷ [])
    -- an expected return too few: 3
    ∷ same (sharpe (two ∷ []) (diagonal one three) 2 2 both) (3 ∷ [])
    ∷ same (sharpe (two ∷ four ∷ []) (diagonal one three) 2 2 []) (1 ∷ [])
    ∷ []

pub figures : all figure_list ≡ true
unfolding recip recip_sum shares term variance_of expectation ratio ratio_of outside any_listed_low risk_table size_table shares_outcome shares_answer shares_laid variance_outcome variance_answer sharpe_outcome sharpe_answer first tab sum_to sum_on sum_rows any_to over_limit other_length laid answer_of max_of root isqrt lt le is_nan add sum mul div round units odd count_trailing_zeros size span climb of_fields of_bits to_bits
figures = refl
