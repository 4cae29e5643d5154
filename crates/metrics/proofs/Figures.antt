-- Figures of splits, and of the names of metrics, computed as one table: each line is an answer beside the one that it must be. Assumes nothing.
use Prim.Native.Nat.{ℕ}
use mathlib.Core.Path.{◌≡◌, refl}
use mathlib.Core.Bool.{Bool, true, ◌&&◌}
use mathlib.Core.List.{List, [], ◌∷◌, map}
use lib.Count.{count_trailing_zeros}
use lib.Ieee.{Float, binary64, of_bits, of_fields, to_bits, add, sum, round, size, span, climb, units, odd, sub, neg, mul, div, of_int, lt, le, eq, is_nan}
use Rattle.arithmetic.specs.Arithmetic.{max_of, clamp_of, finite_of, count_of}
use Rattle.arithmetic.specs.Root.{root, isqrt}
use Rattle.refusal.specs.Refusal.{number_of, values_of}
use Rattle.refusal.specs.Table.{first}
use Rattle.lent.specs.Grid.{tab, sum_to, sum_on, sum_rows, any_to}
use Rattle.lent.specs.Lent.{over_limit, other_length}
use Rattle.text.specs.Bytes.{bytes, same}
use Rattle.clusters.specs.Clusters.{recip, recip_sum, shares, term, variance_of, expectation, ratio, ratio_of, outside, any_listed_low, risk_table, size_table, variance_outcome, variance_answer, sharpe_outcome, sharpe_answer}
use Rattle.clusters.specs.Shares.{factor_of}
use Rattle.ordering.specs.Order as order
use Rattle.ordering.specs.Nearest.{whole_of, place, quantile, no_part}
use Rattle.tails.specs.Tail.{gain, row_return, tail_sum, tail_count, mean, shortfall, wealth, higher, peak, fall, drawdown, conditional_drawdown, shortfall_of, drawdown_of}
use Rattle.tails.specs.Measures.{measure_size_lines, measure_shape_lines, measure_outcome, shortfall_answer, drawdown_answer}
use Rattle.metrics.specs.declared.Metric.{Metric}
use Rattle.metrics.specs.declared.Metric.TheVariants.{MinimumVariance, MinimumStandardDeviation, SharpeRatio, EqualWeighting, ExpectedShortfall, ConditionalDrawdownRisk}
use Rattle.metrics.specs.Names.{metric_named}
use Rattle.metrics.specs.Split.{Inputs, bounded, split_by, by_risk, fair, by_ratio, scored_answer, split_answer}
use Rattle.std.specs.Prelude.{Ok, Err}
use Rattle.metrics.specs.Outcomes.{NamedMetric, Splitting}

abbrev all : List Bool → Bool
all [] = true
all (b ∷ bs) = b && all bs

-- the refusal's number and values, or 0 and the bits of the left risk, the right risk and the left factor
abbrev told_of : Splitting → List ℕ
told_of (Ok s) = 0 ∷ map (to_bits binary64) (s.left ∷ s.right ∷ s.factor ∷ [])
told_of (Err r) = number_of r ∷ values_of r

-- the bits of 0, 1, 0.5, 0.25, 0.75, 3, 9, −1, −3, 2^-60, infinity and NaN
abbrev p0 : ℕ
p0 = 0

abbrev one : ℕ
one = 0x3ff0_0000_0000_0000

abbrev half : ℕ
half = 0x3fe0_0000_0000_0000

abbrev quarter : ℕ
quarter = 0x3fd0_0000_0000_0000

abbrev most : ℕ
most = 0x3fe8_0000_0000_0000

abbrev three : ℕ
three = 0x4008_0000_0000_0000

abbrev nine : ℕ
nine = 0x4022_0000_0000_0000

abbrev minus : ℕ
minus = 0xbff0_0000_0000_0000

abbrev minus_three : ℕ
minus_three = 0xc008_0000_0000_0000

abbrev tiny : ℕ
tiny = 0x3c30_0000_0000_0000

abbrev big : ℕ
big = 0x7ff0_0000_0000_0000

abbrev no_number : ℕ
no_number = 0x7ff8_0000_0000_0000

abbrev floats : List ℕ → List Float
floats xs = map (of_bits binary64) xs

-- expected returns, and no rows of returns
abbrev expecting : List ℕ → Inputs
expecting xs = record { expected = floats xs; returns = []; return_rows = 0; confidence = of_bits binary64 p0 }

-- rows of returns and a confidence
abbrev measured : List ℕ → ℕ → ℕ → Inputs
measured returns rows confidence = record { expected = []; returns = floats returns; return_rows = rows; confidence = of_bits binary64 confidence }

-- asset 0 against asset 1, 0 off the diagonal
abbrev split : Metric → List ℕ → ℕ → ℕ → List ℕ
split m expected a b = told_of (split_answer m (expecting expected) (floats (a ∷ p0 ∷ p0 ∷ b ∷ [])) 2 (0 ∷ []) (1 ∷ []) 0)

-- two assets of variance 1, and rows of two returns
abbrev risky : Metric → List ℕ → ℕ → ℕ → ℕ → List ℕ
risky m returns rows confidence room = told_of (split_answer m (measured returns rows confidence) (floats (one ∷ p0 ∷ p0 ∷ one ∷ [])) 2 (0 ∷ []) (1 ∷ []) room)

abbrev two_rows : List ℕ
two_rows = minus_three ∷ minus ∷ one ∷ minus ∷ []

-- 1 to 6 for the metrics, in the order of the source's names; or 0 and the refusal's number
abbrev named : NamedMetric → List ℕ
named (Ok MinimumVariance) = 1 ∷ []
named (Ok MinimumStandardDeviation) = 2 ∷ []
named (Ok SharpeRatio) = 3 ∷ []
named (Ok EqualWeighting) = 4 ∷ []
named (Ok ExpectedShortfall) = 5 ∷ []
named (Ok ConditionalDrawdownRisk) = 6 ∷ []
named (Err r) = 0 ∷ number_of r ∷ []

abbrev figure_list : List Bool
figure_list =
    same (split MinimumVariance [] one three) (0 ∷ one ∷ three ∷ most ∷ [])
    -- EPSILON counts: (2^-60, 2^-60)
    ∷ same (split MinimumVariance [] tiny tiny) (0 ∷ tiny ∷ tiny ∷ 0x3fef_e03f_80fe_03f8 ∷ [])
    -- the deviations are 1 and 3
    ∷ same (split MinimumStandardDeviation [] one nine) (0 ∷ one ∷ three ∷ most ∷ [])
    -- both ratios are ≥ 0; one is below 0, though their sum isn't: the variance factor
    ∷ same (split SharpeRatio (one ∷ three ∷ []) one one) (0 ∷ one ∷ three ∷ quarter ∷ [])
    ∷ same (split SharpeRatio (minus ∷ three ∷ []) one three) (0 ∷ one ∷ three ∷ most ∷ [])
    ∷ same (split SharpeRatio (three ∷ minus ∷ []) one three) (0 ∷ one ∷ three ∷ most ∷ [])
    ∷ same (split SharpeRatio (p0 ∷ p0 ∷ []) one three) (0 ∷ one ∷ three ∷ most ∷ [])
    -- equal weighting, "after both variances have been worked out"
    ∷ same (split EqualWeighting [] one three) (0 ∷ one ∷ three ∷ half ∷ [])
    ∷ same (split EqualWeighting [] big one) (1 ∷ [])
    ∷ same (split EqualWeighting [] one p0) (1 ∷ [])
    -- expected returns are one too few: 3
    ∷ same (split SharpeRatio (one ∷ []) one one) (3 ∷ [])
    -- the shortfalls are 3 and 1; a part of scratch too short is 11, before 16, before 17
    ∷ same (risky ExpectedShortfall two_rows 2 half 3) (0 ∷ three ∷ one ∷ quarter ∷ [])
    ∷ same (risky ExpectedShortfall two_rows 2 no_number 2) (11 ∷ [])
    ∷ same (risky ConditionalDrawdownRisk [] 0 no_number 1) (16 ∷ [])
    ∷ same (risky ConditionalDrawdownRisk two_rows 2 no_number 3) (17 ∷ [])
    ∷ same (named (metric_named (bytes "minimum_variance"))) (1 ∷ [])
    ∷ same (named (metric_named (bytes "minimum_standard_deviation"))) (2 ∷ [])
    ∷ same (named (metric_named (bytes "sharpe_ratio"))) (3 ∷ [])
    ∷ same (named (metric_named (bytes "equal_weighting"))) (4 ∷ [])
    ∷ same (named (metric_named (bytes "Equal_weighting"))) (0 ∷ 2 ∷ [])
    ∷ same (named (metric_named (bytes "expected_shortfall"))) (5 ∷ [])
    ∷ same (named (metric_named (bytes "conditional_drawdown_risk"))) (6 ∷ [])
    ∷ []

pub figures : all figure_list ≡ true
unfolding same metric_named order.has_minus order.before order.insert order.insert_all order.sorted whole_of place quantile no_part gain row_return tail_sum tail_count mean shortfall wealth higher peak fall drawdown conditional_drawdown shortfall_of drawdown_of measure_size_lines measure_shape_lines measure_outcome shortfall_answer drawdown_answer scored_answer split_answer by_risk by_ratio fair split_by bounded factor_of recip recip_sum shares term variance_of expectation ratio ratio_of outside any_listed_low risk_table size_table variance_outcome variance_answer sharpe_outcome sharpe_answer first tab sum_to sum_on sum_rows any_to over_limit other_length max_of clamp_of finite_of count_of root isqrt lt le eq is_nan add sum sub neg mul div of_int round units odd count_trailing_zeros size span climb of_fields of_bits to_bits
figures = refl
