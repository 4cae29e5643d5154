-- Figures for sharing down given merge rows, computed as one table. Assumes nothing.
use Prim.Native.Nat.{ℕ}
use mathlib.Core.Path.{◌≡◌, refl}
use mathlib.Core.Bool.{Bool, true, false, ◌&&◌}
use mathlib.Core.List.{List, [], ◌∷◌, ◌++◌, map}
use lib.Count.{count_trailing_zeros}
use lib.Ieee.{Float, binary64, of_bits, of_fields, to_bits, add, sum, round, size, span, climb, units, odd, sub, neg, mul, div, of_int, lt, le, eq, is_nan}
use Rattle.arithmetic.specs.Arithmetic.{max_of, clamp_of, finite_of, count_of, one_over}
use Rattle.arithmetic.specs.Root.{root, isqrt}
use Rattle.refusal.specs.Refusal.{number_of, values_of}
use Rattle.refusal.specs.Table.{first}
use Rattle.lent.specs.Count.{count}
use Rattle.lent.specs.Grid.{tab, sum_to, sum_on, sum_rows, any_to}
use Rattle.lent.specs.Lent.{over_limit, other_length, laid, answer_of, Answer}
use Rattle.text.specs.Bytes.{same}
use Rattle.tree.specs.Rows.{below, once, is_tree}
use Rattle.tree.specs.Tree.{grow, tree_at, leaves}
use Rattle.clusters.specs.Clusters.{recip, recip_sum, shares, term, variance_of, expectation, ratio, outside, any_listed_low, risk_table, size_table, shares_outcome, variance_outcome, variance_answer}
use Rattle.clusters.specs.Shares.{factor_of, is_none, weights_in}
use Rattle.ordering.specs.Order as order
use Rattle.ordering.specs.Nearest.{whole_of, place, quantile, no_part}
use Rattle.tails.specs.Tail.{gain, row_return, tail_sum, tail_count, mean, shortfall, wealth, higher, peak, fall, drawdown, conditional_drawdown, shortfall_of, drawdown_of}
use Rattle.metrics.specs.declared.Metric.{Metric}
use Rattle.metrics.specs.declared.Metric.TheVariants.{MinimumVariance, MinimumStandardDeviation, SharpeRatio, EqualWeighting, ExpectedShortfall}
use Rattle.metrics.specs.Split.{Inputs, bounded, split_by, by_risk, fair, by_ratio, scored, split_of}
use Rattle.sharing.specs.Allot.{spread_of, equal_of, deal_to, varied_of, inside_of, allotted, down_shares}
use Rattle.sharing.specs.Down.{is_sharpe, is_tail_risk, other_rows, metric_tail_lines, DownCall, down_size_lines, down_rule_lines, down_given, down_table, down_outcome, down_answer, down_weights}
use Rattle.std.specs.Prelude.{Ok, Err}

abbrev all : List Bool → Bool
all [] = true
all (b ∷ bs) = b && all bs

-- the refusal's number and values, or 0 and the answer's rows and columns
abbrev told_of : Answer → List ℕ
told_of (Ok s) = 0 ∷ s.rows ∷ s.columns ∷ []
told_of (Err r) = number_of r ∷ values_of r

-- and the bits of the buffer
abbrev shared : DownCall → ℕ → List ℕ
shared q room = told_of (down_answer q room 8192) ++ map (to_bits binary64) (down_weights q room 8192)

-- the bits of 0, 1, 0.5, 0.25, 0.75, the double nearest 1/3, 3, 9, −1, −3, 2^-60, infinity and NaN
abbrev p0 : ℕ
p0 = 0

abbrev one : ℕ
one = 0x3ff0_0000_0000_0000

abbrev half : ℕ
half = 0x3fe0_0000_0000_0000

abbrev quarter : ℕ
quarter = 0x3fd0_0000_0000_0000

abbrev most : ℕ
most = 0x3fe8_0000_0000_0000

abbrev third : ℕ
third = 0x3fd5_5555_5555_5555

abbrev three : ℕ
three = 0x4008_0000_0000_0000

abbrev nine : ℕ
nine = 0x4022_0000_0000_0000

abbrev minus : ℕ
minus = 0xbff0_0000_0000_0000

abbrev minus_three : ℕ
minus_three = 0xc008_0000_0000_0000

abbrev tiny : ℕ
tiny = 0x3c30_0000_0000_0000

abbrev big : ℕ
big = 0x7ff0_0000_0000_0000

abbrev no_number : ℕ
no_number = 0x7ff8_0000_0000_0000

abbrev floats : List ℕ → List Float
floats xs = map (of_bits binary64) xs

-- expected returns, and no rows of returns
abbrev expecting : List ℕ → Inputs
expecting xs = record { expected = floats xs; returns = []; return_rows = 0; confidence = of_bits binary64 p0 }

-- the job of document 01: A and B are 0.5 apart, C is alone
abbrev job : ℕ → DownCall
job k = record {
  metric = EqualWeighting;
  inputs = expecting [];
  expected_given = false;
  return_columns = 0;
  covariance = floats (one ∷ half ∷ p0 ∷ half ∷ one ∷ p0 ∷ p0 ∷ p0 ∷ one ∷ []);
  covariance_rows = 3;
  covariance_columns = 3;
  rows = 0 ∷ 1 ∷ 2 ∷ 3 ∷ [];
  assets = 3;
  clusters = k;
}

-- one asset of variance −1
abbrev alone : DownCall
alone = record {
  metric = MinimumVariance;
  inputs = expecting [];
  expected_given = false;
  return_columns = 0;
  covariance = floats (minus ∷ []);
  covariance_rows = 1;
  covariance_columns = 1;
  rows = [];
  assets = 1;
  clusters = 1;
}

-- two assets, 0 off the diagonal
abbrev pair : Metric → List ℕ → Bool → ℕ → ℕ → ℕ → DownCall
pair m expected given a b k = record {
  metric = m;
  inputs = expecting expected;
  expected_given = given;
  return_columns = 0;
  covariance = floats (a ∷ p0 ∷ p0 ∷ b ∷ []);
  covariance_rows = 2;
  covariance_columns = 2;
  rows = 0 ∷ 1 ∷ [];
  assets = 2;
  clusters = k;
}

-- A and B of variances 1 and 3 in one cluster, whose row has B first
abbrev turned : DownCall
turned = record {
  metric = MinimumVariance;
  inputs = expecting [];
  expected_given = false;
  return_columns = 0;
  covariance = floats (one ∷ p0 ∷ p0 ∷ three ∷ []);
  covariance_rows = 2;
  covariance_columns = 2;
  rows = 1 ∷ 0 ∷ [];
  assets = 2;
  clusters = 1;
}

-- two assets of variance 1, 0 off the diagonal, and rows of two returns
abbrev risky : Metric → List ℕ → ℕ → ℕ → DownCall
risky m returns rows confidence = record {
  metric = m;
  inputs = record { expected = []; returns = floats returns; return_rows = rows; confidence = of_bits binary64 confidence };
  expected_given = false;
  return_columns = 2;
  covariance = floats (one ∷ p0 ∷ p0 ∷ one ∷ []);
  covariance_rows = 2;
  covariance_columns = 2;
  rows = 0 ∷ 1 ∷ [];
  assets = 2;
  clusters = 2;
}

abbrev figure_list : List Bool
figure_list =
    same (shared (job 3) 4) (0 ∷ 1 ∷ 3 ∷ quarter ∷ quarter ∷ half ∷ p0 ∷ [])
    ∷ same (shared (job 2) 3) (0 ∷ 1 ∷ 3 ∷ quarter ∷ quarter ∷ half ∷ [])
    ∷ same (shared (job 1) 3) (0 ∷ 1 ∷ 3 ∷ third ∷ third ∷ third ∷ [])
    -- 6 with the count asked and the assets
    ∷ same (shared (job 0) 3) (6 ∷ 0 ∷ 3 ∷ p0 ∷ p0 ∷ p0 ∷ [])
    ∷ same (shared (job 4) 3) (6 ∷ 4 ∷ 3 ∷ p0 ∷ p0 ∷ p0 ∷ [])
    -- "HCAA equal, (infinity, 1): 2 clusters 1, 1 cluster 0.5 each"
    ∷ same (shared (pair EqualWeighting [] false big one 2) 2) (1 ∷ p0 ∷ p0 ∷ [])
    ∷ same (shared (pair EqualWeighting [] false big one 1) 2) (0 ∷ 1 ∷ 2 ∷ half ∷ half ∷ [])
    -- a variance that neither a side nor a cut by inverse variance reads is not looked at
    ∷ same (shared alone 1) (0 ∷ 1 ∷ 1 ∷ one ∷ [])
    ∷ same (shared (pair EqualWeighting [] false minus one 1) 2) (0 ∷ 1 ∷ 2 ∷ half ∷ half ∷ [])
    ∷ same (shared (pair MinimumVariance [] false minus one 1) 2) (1 ∷ p0 ∷ p0 ∷ [])
    -- a cut cluster's parts go by its leaves, here B and then A, and not by the assets' numbers
    ∷ same (shared turned 2) (0 ∷ 1 ∷ 2 ∷ most ∷ quarter ∷ [])
    -- the factors
    ∷ same (shared (pair MinimumVariance [] false one three 2) 2) (0 ∷ 1 ∷ 2 ∷ most ∷ quarter ∷ [])
    ∷ same (shared (pair MinimumStandardDeviation [] false one nine 2) 2) (0 ∷ 1 ∷ 2 ∷ most ∷ quarter ∷ [])
    ∷ same (shared (pair SharpeRatio (one ∷ three ∷ []) true one one 2) 2) (0 ∷ 1 ∷ 2 ∷ quarter ∷ most ∷ [])
    ∷ same (shared (pair SharpeRatio (minus ∷ three ∷ []) true one one 2) 2) (0 ∷ 1 ∷ 2 ∷ half ∷ half ∷ [])
    -- EPSILON counts: (2^-60, 2^-60)
    ∷ same (shared (pair MinimumVariance [] false tiny tiny 2) 2) (0 ∷ 1 ∷ 2 ∷ 0x3fef_e03f_80fe_03f8 ∷ 0x3f6f_c07f_01fc_0800 ∷ [])
    -- expected returns are one too few, or absent: 3, and 4 before 6
    ∷ same (shared (pair SharpeRatio (one ∷ []) true one one 2) 2) (3 ∷ p0 ∷ p0 ∷ [])
    ∷ same (shared (pair SharpeRatio [] false one one 0) 2) (4 ∷ p0 ∷ p0 ∷ [])
    -- the shortfalls are 3 and 1; 16 comes before 17
    ∷ same (shared (risky ExpectedShortfall (minus_three ∷ minus ∷ one ∷ minus ∷ []) 2 half) 2) (0 ∷ 1 ∷ 2 ∷ quarter ∷ most ∷ [])
    ∷ same (shared (risky ExpectedShortfall [] 0 no_number) 2) (16 ∷ p0 ∷ p0 ∷ [])
    ∷ same (shared (risky ExpectedShortfall (minus_three ∷ minus ∷ one ∷ minus ∷ []) 2 no_number) 2) (17 ∷ p0 ∷ p0 ∷ [])
    ∷ []

pub figures : all figure_list ≡ true
unfolding same is_sharpe is_tail_risk order.has_minus order.before order.insert order.insert_all order.sorted whole_of place quantile no_part gain row_return tail_sum tail_count mean shortfall wealth higher peak fall drawdown conditional_drawdown shortfall_of drawdown_of other_rows metric_tail_lines down_size_lines down_rule_lines down_given down_table down_outcome down_answer down_weights down_shares allotted inside_of varied_of equal_of spread_of deal_to split_of scored factor_of by_risk by_ratio fair split_by bounded is_none weights_in recip recip_sum shares term variance_of expectation ratio outside any_listed_low risk_table size_table shares_outcome variance_outcome variance_answer first count below once is_tree grow tree_at leaves tab sum_to sum_on sum_rows any_to over_limit other_length laid answer_of max_of clamp_of finite_of count_of one_over root isqrt lt le eq is_nan add sum sub neg mul div of_int round units odd count_trailing_zeros size span climb of_fields of_bits to_bits
figures = refl
