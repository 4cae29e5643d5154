-- Both measures of five rows of two assets, by their bits, worked out beside by another program; and some calls. Computed by antt.
use Prim.Native.Nat.{ℕ}
use mathlib.Core.Path.{◌≡◌, refl}
use mathlib.Core.List.{List, [], ◌∷◌, map}
use mathlib.Core.Bool.{Bool, true, false, ◌&&◌}
use lib.Dec.{eqb}
use lib.Ieee.{Float, nan, binary64, of_bits, to_bits, is_nan, lt, eq, le, mul, add, sub, div, neg, of_int}
use Rattle.tails.specs.Tail.{gain, row_return, tail_sum, tail_count, mean, shortfall, wealth, higher, peak, fall, drawdown, conditional_drawdown, shortfall_of, drawdown_of}
use Rattle.tails.specs.Measures.{MeasureCall, measure_size_lines, measure_shape_lines, measure_outcome, shortfall_answer, drawdown_answer}
use Rattle.refusal.specs.Refusal.{number_of}
use Rattle.refusal.specs.Table.{first}
use Rattle.lent.specs.Grid.{tab, sum_to, any_to}
use Rattle.lent.specs.Lent.{over_limit, other_length}
use Rattle.clusters.specs.Clusters.{recip, recip_sum, shares, outside, any_listed_low, size_table}
use Rattle.ordering.specs.Order.{sorted, insert_all, insert, before, has_minus}
use Rattle.arithmetic.specs.Arithmetic.{count_of}
use Rattle.ordering.specs.Nearest.{whole_of, place, quantile, no_part}
use Rattle.std.specs.Prelude.{Ok, Err}
use Rattle.clusters.specs.Outcomes.{Risk}

abbrev series : ℕ → Float
series = row_return (map (of_bits binary64)
    (0x3f847ae147ae147b ∷ 0xbf947ae147ae147b ∷ 0xbf9eb851eb851eb8 ∷ 0x3f847ae147ae147b ∷ 0x3f947ae147ae147b ∷ 0x3f947ae147ae147b ∷ 0xbfa999999999999a ∷ 0xbf847ae147ae147b ∷ 0x3fa47ae147ae147b ∷ 0 ∷ []))
    2 (0 ∷ 1 ∷ []) (map (of_bits binary64) (0x3fd0000000000000 ∷ 0x3fe8000000000000 ∷ []))

abbrev falls : ℕ → ℕ → Bool
falls q b = eqb (to_bits binary64 (shortfall 5 series (of_bits binary64 q))) b

abbrev drops : ℕ → ℕ → Bool
drops q b = eqb (to_bits binary64 (conditional_drawdown 5 series (of_bits binary64 q))) b

-- at 0.05, 0.3, 0.95 and 0.5
figures : (falls 0x3fa999999999999a 0x3f947ae147ae147b && falls 0x3fd3333333333333 0x3f90a3d70a3d70a4 && falls 0x3fee666666666666 0x3f40624dd2f1a9fa && falls 0x3fe0000000000000 0x3f862fc962fc9630
    && drops 0x3fa999999999999a 0x3f947ae147ae1472 && drops 0x3fd3333333333333 0x3f8eb851eb851ea1 && drops 0x3fee666666666666 0x3f82d77318fc503b && drops 0x3fe0000000000000 0x3f8c432ca57a7858) ≡ true
unfolding gain row_return tail_sum tail_count mean shortfall wealth higher peak fall drawdown conditional_drawdown tab sum_to quantile place whole_of sorted insert_all insert before has_minus of_bits to_bits is_nan lt eq le mul add sub div neg count_of of_int
figures = refl

-- ---- the calls, with a covariance of two unit variances and returns (−3, −1), (1, −1), row by row

abbrev cov : List Float
cov = map (of_bits binary64) (0x3ff0000000000000 ∷ 0 ∷ 0 ∷ 0x3ff0000000000000 ∷ [])

abbrev rows : List Float
rows = map (of_bits binary64) (0xc008000000000000 ∷ 0xbff0000000000000 ∷ 0x3ff0000000000000 ∷ 0xbff0000000000000 ∷ [])

abbrev of : List ℕ → MeasureCall
of assets = record {
  returns = rows;
  return_rows = 2;
  return_columns = 2;
  covariance = cov;
  covariance_rows = 2;
  covariance_columns = 2;
  assets = assets;
  confidence = of_bits binary64 0x3fe0000000000000;
  room = 3;
}

-- asset 0, of so many rows of returns, with the confidence NaN and a buffer of so many doubles
abbrev unsure : List Float → ℕ → ℕ → MeasureCall
unsure returns return_rows room = record {
  returns = returns;
  return_rows = return_rows;
  return_columns = 2;
  covariance = cov;
  covariance_rows = 2;
  covariance_columns = 2;
  assets = 0 ∷ [];
  confidence = nan;
  room = room;
}

abbrev gives : Risk → ℕ → Bool
gives (Ok x) b = eqb (to_bits binary64 x) b
gives (Err r) b = false

abbrev refuses : Risk → ℕ → Bool
refuses (Ok x) k = false
refuses (Err r) k = eqb (number_of r) k

-- at 0.5 the expected shortfall of asset 0 alone is 3, and of asset 1 alone 1; of both, a half each, 2. The drawdowns of asset 0 are 0, 3 and 5: their tail's mean is 4.
-- No rows are 16, before the confidence NaN is 17; a buffer of 2 for two rows is 11, before both.
calls : (gives (shortfall_answer (of (0 ∷ []))) 0x4008000000000000 && gives (shortfall_answer (of (1 ∷ []))) 0x3ff0000000000000 && gives (shortfall_answer (of (0 ∷ 1 ∷ []))) 0x4000000000000000
    && gives (drawdown_answer (of (0 ∷ []))) 0x4010000000000000
    && refuses (shortfall_answer (unsure [] 0 1)) 16 && refuses (drawdown_answer (unsure rows 2 3)) 17 && refuses (drawdown_answer (unsure rows 2 2)) 11) ≡ true
unfolding shortfall_answer drawdown_answer measure_outcome measure_size_lines measure_shape_lines size_table over_limit other_length outside any_listed_low recip_sum recip shares any_to first no_part shortfall_of drawdown_of gain row_return tail_sum tail_count mean shortfall wealth higher peak fall drawdown conditional_drawdown tab sum_to quantile place whole_of sorted insert_all insert before has_minus of_bits to_bits is_nan lt eq le mul add sub div neg count_of of_int
calls = refl
