-- Small cases of document 01's covariance, shrinkage, correlation and expected returns, computed by antt as one table.
-- Each line is what a call returns and the bits that its buffer holds, beside those that they must be. Assumes nothing.
use Prim.Native.Nat.{ℕ}
use mathlib.Core.Path.{◌≡◌, refl}
use mathlib.Core.Bool.{Bool, true, false, ◌&&◌}
use mathlib.Core.List.{List, [], ◌∷◌, ◌++◌, map}
use lib.Count.{count_trailing_zeros}
use lib.Dec.{eqb}
use lib.Ieee.{Float, binary64, size, span, climb, odd, units, round, sum, add, neg, sub, mul, div, of_int, le, of_fields, of_bits, to_bits}
use Rattle.arithmetic.specs.Arithmetic.{count_of}
use Rattle.arithmetic.specs.Root.{isqrt, root}
use Rattle.refusal.specs.Refusal.{number_of}
use Rattle.refusal.specs.Table.{first}
use Rattle.lent.specs.Grid.{tab, grid, sum_to, any_to}
use Rattle.lent.specs.Lent.{over_limit, other_length, sizes, squares, laid, answer_of, Answer}
use Rattle.stats.specs.Covariance.{mean_of, spread, covariance_of, covariance_cell, covariance_table, covariance_outcome, covariance_answer, covariances, shrunk_cell, shrink_outcome, shrink_answer, shrunk, correlation_cell, any_low, correlation_table, correlation_outcome, correlation_answer, correlations}
use Rattle.stats.specs.Expected.{mean_return, weight_at, exponential_return, expected_outcome, expected_answer, mean_returns, exponential_returns}
use Rattle.std.specs.Prelude.{Ok, Err}

abbrev all : List Bool → Bool
all [] = true
all (b ∷ bs) = b && all bs

abbrev same : List ℕ → List ℕ → Bool
same [] [] = true
same [] (y ∷ ys) = false
same (x ∷ xs) [] = false
same (x ∷ xs) (y ∷ ys) = eqb x y && same xs ys

-- the rows and columns of an answer, or a refusal's number alone
abbrev told : Answer → List ℕ
told (Ok s) = s.rows ∷ s.columns ∷ []
told (Err r) = number_of r ∷ []

-- a call: its answer and its buffer, for a matrix given by its bits
abbrev call : (List Float → ℕ → ℕ → ℕ → Answer) → (List Float → ℕ → ℕ → ℕ → List Float) → List ℕ → ℕ → ℕ → ℕ → List ℕ
call answer cells bits rows w room =
    let xs = map (of_bits binary64) bits in
    told (answer xs rows w room) ++ map (to_bits binary64) (cells xs rows w room)

abbrev cov : List ℕ → ℕ → ℕ → ℕ → List ℕ
cov = call covariance_answer covariances

abbrev shrink : List ℕ → ℕ → ℕ → ℕ → List ℕ
shrink = call shrink_answer shrunk

abbrev corr : List ℕ → ℕ → ℕ → ℕ → List ℕ
corr = call correlation_answer correlations

abbrev average : List ℕ → ℕ → ℕ → ℕ → List ℕ
average = call expected_answer mean_returns

abbrev exponential : List ℕ → ℕ → ℕ → ℕ → List ℕ
exponential = call expected_answer exponential_returns

-- the numbers 0.5, 1, 2, 3, 4, 6 and 126, and NaN
abbrev half : ℕ
half = 0x3fe0_0000_0000_0000

abbrev one : ℕ
one = 0x3ff0_0000_0000_0000

abbrev two : ℕ
two = 0x4000_0000_0000_0000

abbrev three : ℕ
three = 0x4008_0000_0000_0000

abbrev four : ℕ
four = 0x4010_0000_0000_0000

abbrev six : ℕ
six = 0x4018_0000_0000_0000

abbrev f126 : ℕ
f126 = 0x405f_8000_0000_0000

abbrev no : ℕ
no = 0x7ff8_0000_0000_0000

abbrev covariance_figures : List Bool
covariance_figures =
    -- zero past the answer's last cell
    same (cov (one ∷ two ∷ two ∷ four ∷ three ∷ six ∷ []) 3 2 5) (2 ∷ 2 ∷ one ∷ two ∷ two ∷ four ∷ 0 ∷ [])
    -- one row
    ∷ same (cov (one ∷ two ∷ []) 1 2 4) (1 ∷ 0 ∷ 0 ∷ 0 ∷ 0 ∷ [])
    -- 11 comes before 1, and 10 before both
    ∷ same (cov (one ∷ two ∷ []) 1 2 3) (11 ∷ 0 ∷ 0 ∷ 0 ∷ [])
    ∷ same (cov (one ∷ []) 1 2 3) (10 ∷ 0 ∷ 0 ∷ 0 ∷ [])
    -- 65 columns, of an empty slice
    ∷ same (cov [] 3 65 0) (9 ∷ [])
    -- no columns
    ∷ same (cov [] 3 0 1) (0 ∷ 0 ∷ 0 ∷ [])
    ∷ []

abbrev shrink_figures : List Bool
shrink_figures =
    -- 0.5 and 3 times 0.9: the two cells across the diagonal differ, and stay so
    same (shrink (one ∷ half ∷ three ∷ two ∷ []) 2 2 4) (2 ∷ 2 ∷ one ∷ 0x3fdc_cccc_cccc_cccd ∷ 0x4005_9999_9999_999a ∷ two ∷ [])
    -- an empty matrix is accepted
    ∷ same (shrink [] 0 0 1) (0 ∷ 0 ∷ 0 ∷ [])
    -- one row of two columns needs four cells, and then is not square
    ∷ same (shrink (one ∷ half ∷ []) 1 2 3) (11 ∷ 0 ∷ 0 ∷ 0 ∷ [])
    ∷ same (shrink (one ∷ half ∷ []) 1 2 4) (3 ∷ 0 ∷ 0 ∷ 0 ∷ 0 ∷ [])
    ∷ []

abbrev correlation_figures : List Bool
correlation_figures =
    -- the root of 3, squared, is a little below 3
    same (corr (one ∷ 0 ∷ 0 ∷ three ∷ []) 2 2 4) (2 ∷ 2 ∷ one ∷ 0 ∷ 0 ∷ 0x3ff0_0000_0000_0001 ∷ [])
    -- a NaN variance passes, a variance of 0 does not
    ∷ same (corr (no ∷ 0 ∷ 0 ∷ one ∷ []) 2 2 4) (2 ∷ 2 ∷ no ∷ no ∷ no ∷ one ∷ [])
    ∷ same (corr (0 ∷ 0 ∷ 0 ∷ one ∷ []) 2 2 4) (1 ∷ 0 ∷ 0 ∷ 0 ∷ 0 ∷ [])
    -- an empty matrix
    ∷ same (corr [] 0 0 2) (3 ∷ 0 ∷ 0 ∷ [])
    ∷ []

abbrev expected_figures : List Bool
expected_figures =
    -- no rows
    same (average [] 0 2 3) (1 ∷ 2 ∷ 0 ∷ 0 ∷ 0 ∷ [])
    ∷ same (exponential [] 0 2 3) (1 ∷ 2 ∷ 0 ∷ 0 ∷ 0 ∷ [])
    -- one row
    ∷ same (average (half ∷ []) 1 1 1) (1 ∷ 1 ∷ f126 ∷ [])
    ∷ same (exponential (half ∷ []) 1 1 1) (1 ∷ 1 ∷ f126 ∷ [])
    -- 1, and then 0.5: 189, and 188.874, since the newest row counts most
    ∷ same (average (one ∷ half ∷ []) 2 1 1) (1 ∷ 1 ∷ 0x4067_a000_0000_0000 ∷ [])
    ∷ same (exponential (one ∷ half ∷ []) 2 1 1) (1 ∷ 1 ∷ 0x4067_9bf7_ced9_1687 ∷ [])
    -- a buffer of one for two columns
    ∷ same (average (one ∷ half ∷ []) 1 2 1) (11 ∷ 0 ∷ [])
    ∷ []

pub figures : all (covariance_figures ++ shrink_figures ++ correlation_figures ++ expected_figures) ≡ true
unfolding covariance_answer covariances covariance_outcome covariance_table covariance_cell covariance_of spread mean_of shrink_answer shrunk shrink_outcome shrunk_cell correlation_answer correlations correlation_outcome correlation_table correlation_cell any_low expected_answer expected_outcome mean_returns mean_return exponential_returns exponential_return weight_at first over_limit other_length sizes squares laid answer_of tab grid sum_to any_to count_of root isqrt add sum neg sub mul div of_int le round units odd count_trailing_zeros size span climb of_fields of_bits to_bits
figures = refl
