-- What a call makes of the matrices that it is given, and the order of its refusals, computed by antt as one table. Assumes nothing.
use mathlib.Core.Path.{◌≡◌, refl}
use mathlib.Core.Bool.{Bool, true, false, ◌&&◌}
use mathlib.Core.List.{List, [], ◌∷◌, ◌++◌}
use Prim.Native.Nat.{ℕ, ◌-◌, ◌*◌}
use lib.Count.{count_trailing_zeros}
use lib.Dec.{eqb}
use lib.Ieee.{Float, binary64, size, span as ieee-span, climb, odd, units, round, neg, add, sum, sub, mul, div, of_int, lt, le, eq, is_nan, of_fields, of_bits, to_bits}
use Rattle.arithmetic.specs.Constants.{pz}
use Rattle.arithmetic.specs.Arithmetic.{count_of, min_of, max_of, abs_of, clamp_of}
use Rattle.arithmetic.specs.Root.{isqrt, root}
use Rattle.refusal.specs.Refusal.{number_of}
use Rattle.refusal.specs.Table.{first, Outcome}
use Rattle.lent.specs.Grid.{tab, grid, sum_to, sum_on, sum_rows, any_to}
use Rattle.lent.specs.Range.{span, range}
use Rattle.lent.specs.Lent.{over_limit, other_length, too_big, misfits, sizes, laid, Shape, size as sized}
use Rattle.text.specs.Bytes.{bytes, lower, same as same_bytes, is_word}
use Rattle.resample.specs.Resample.{is_weekly, is_monthly, step_of, keeps_all, kept_rows, kept_row, sampled_cell, return_cell, zero_met}
use Rattle.stats.specs.Covariance.{mean_of, spread, covariance_of as covariance_in, covariance_cell, shrunk_cell, correlation_cell, any_low}
use Rattle.distances.specs.Distances.{clamped, distance_of, distance_cell, off_diagonal, square, between, between_cell}
use Rattle.tree.specs.Tree.{grow, tree_at, leaves}
use Rattle.tree.specs.Order.{seriated_cell}
use Rattle.linkage.specs.Merge.{ward_f, update_f, pair_before, near, better, offer, look, scan_row, scan_from, scan_all, both, movable, moved, moved_all, merged, step, copied, start, state_at, merge_rows}
use Rattle.linkage.specs.declared.Distance.TheVariants.{Correlation}
use Rattle.clusters.specs.Clusters.{recip, recip_sum, shares, term, variance_of, outside, any_listed_low as any_low_of, risk_table, size_table, variance_outcome, variance_answer}
use Rattle.clusters.specs.Shares.{is_none, weights_in}
use Rattle.bisection.specs.Bisection.{factor_of, sides_factor, halved, bisected, normal, bisection_shares}
use Rattle.arranging.specs.Arranging.{distances_in, tree_rows, tree_order}
use Rattle.parity.specs.Parity.{ParityRoom, correlations_of, hrp_distances, tree_distances, hrp_rows, hrp_order, hrp_shares, seriated_in, parity_room_lines, hrp_risk_lines, room_lines}
use Rattle.inputs.specs.Inputs.{absent, rows_of_shape, other_columns, other_size, matrix_lines, sampled, no_returns, made_returns}
use Rattle.hrp.specs.Hrp.{HrpJob, prices_alone, hrp_return_rows, hrp_return_cells, estimated, shrunk_if, hrp_covariance_by, hrp_covariance, hrp_shape_lines, number_lines, hrp_table, hrp_outcome}
use Rattle.std.specs.Prelude.{Some, Ok, None, Err}

abbrev all : List Bool → Bool
all [] = true
all (b ∷ bs) = b && all bs

abbrev same : List ℕ → List ℕ → Bool
same [] [] = true
same [] (b ∷ bs) = false
same (a ∷ l) [] = false
same (a ∷ l) (b ∷ bs) = eqb a b && same l bs

abbrev doubles : List ℕ → List Float
doubles [] = []
doubles (b ∷ bs) = of_bits binary64 b ∷ doubles bs

abbrev bits : List Float → List ℕ
bits [] = []
bits (x ∷ l) = to_bits binary64 x ∷ bits l

-- 0, or the refusal's number
abbrev number : Outcome → ℕ
number (Ok _) = 0
number (Err r) = number_of r

-- buffers of just the sizes that n assets ask
abbrev room : ℕ → ParityRoom
room n = record { rows = 2 * (n - 1); order = n; weights = n; correlations = n * n; distances = n * n; scratch = 8192 }

-- the number of a call, and the bits of its weights and seriated correlations
abbrev told : Outcome → List Float → ℕ → List ℕ
told o cov n = number o ∷ bits (laid pz o n (weights_in (hrp_shares Correlation cov n)) ++ laid pz o (n * n) (seriated_in (hrp_order Correlation cov n) (correlations_of cov n) n))

abbrev allocated : HrpJob → List ℕ
allocated j = told (hrp_outcome j (room j.assets)) (hrp_covariance j) j.assets

-- the number alone
abbrev refused : HrpJob → ParityRoom → ℕ
refused j r = number (hrp_outcome j r)

-- ---- matrices

abbrev p0 : ℕ
p0 = 0x0

abbrev one : ℕ
one = 0x3ff0_0000_0000_0000

abbrev two : ℕ
two = 0x4000_0000_0000_0000

abbrev half : ℕ
half = 0x3fe0_0000_0000_0000

-- 0.9, −1
abbrev nine : ℕ
nine = 0x3fec_cccc_cccc_cccd

abbrev minus : ℕ
minus = 0xbff0_0000_0000_0000

-- the returns 1, 0, −1 of two assets alike, and prices that have them: a zero in the last row is no denominator
abbrev alike : List ℕ
alike = one ∷ one ∷ p0 ∷ p0 ∷ minus ∷ minus ∷ []

abbrev rising : List ℕ
rising = one ∷ one ∷ two ∷ two ∷ two ∷ two ∷ p0 ∷ p0 ∷ []

-- one asset's prices 1, 2, 2, 0 at the end of each week, 0 before
abbrev weekly : List ℕ
weekly =
    p0 ∷ p0 ∷ p0 ∷ p0 ∷ one
    ∷ p0 ∷ p0 ∷ p0 ∷ p0 ∷ two
    ∷ p0 ∷ p0 ∷ p0 ∷ p0 ∷ two
    ∷ p0 ∷ p0 ∷ p0 ∷ p0 ∷ p0
    ∷ []

-- n assets: prices, returns and covariance with their shapes, a sampling name, shrinkage
abbrev given : ℕ → List ℕ → Shape → List ℕ → Shape → List ℕ → Shape → List ℕ → Bool → HrpJob
given n p ps r rs c cs by shrink = record {
  assets = n;
  prices = doubles p;
  prices_shape = ps;
  returns = doubles r;
  returns_shape = rs;
  covariance = doubles c;
  covariance_shape = cs;
  resample_by = by;
  use_shrinkage = shrink;
  distance = Correlation;
}

-- equal variances, and the correlations x
abbrev equal : ℕ → List ℕ
equal x = 0 ∷ half ∷ half ∷ one ∷ x ∷ x ∷ one ∷ []

abbrev done : List Bool
done =
    -- a given covariance is not shrunk, and prices are not looked at beside it, nor beside returns; the estimated one is shrunk where asked
    same (allocated (given 2 (one ∷ []) (Some (sized 1 1)) alike (Some (sized 3 2)) (one ∷ half ∷ half ∷ one ∷ []) (Some (sized 2 2)) [] true)) (equal half)
    ∷ same (allocated (given 2 (one ∷ []) (Some (sized 1 1)) alike (Some (sized 3 2)) [] None [] false)) (equal one)
    ∷ same (allocated (given 2 (one ∷ []) (Some (sized 1 1)) alike (Some (sized 3 2)) [] None [] true)) (equal nine)
    -- prices, and a sample of them
    ∷ same (allocated (given 2 rising (Some (sized 4 2)) [] None [] None [] true)) (equal nine)
    ∷ same (allocated (given 1 weekly (Some (sized 20 1)) [] None [] None (bytes "Weekly") false)) (0 ∷ one ∷ one ∷ [])
    ∷ same (allocated (given 1 weekly (Some (sized 20 1)) [] None [] None (bytes "daily") false)) (1 ∷ p0 ∷ p0 ∷ [])
    ∷ []

abbrev refusals : List Bool
refusals =
    -- no matrix before no assets, both before the columns; given returns' columns, and prices' only where they are alone
    eqb (refused (given 2 [] None [] None [] None [] false) (room 2)) 1
    ∷ eqb (refused (given 0 [] None [] (Some (sized 0 1)) [] (Some (sized 0 0)) [] false) (room 0)) 1
    ∷ eqb (refused (given 2 [] None (one ∷ []) (Some (sized 1 1)) (one ∷ p0 ∷ p0 ∷ one ∷ []) (Some (sized 2 2)) [] false) (room 2)) 3
    ∷ eqb (refused (given 2 (one ∷ []) (Some (sized 1 1)) [] None [] None [] false) (room 2)) 3
    -- a zero price, under 2 sampled rows, under 2 rows of returns
    ∷ eqb (refused (given 2 (one ∷ p0 ∷ one ∷ one ∷ one ∷ one ∷ []) (Some (sized 3 2)) [] None [] None [] false) (room 2)) 1
    ∷ eqb (refused (given 1 weekly (Some (sized 20 1)) [] None [] None (bytes "m") false) (room 1)) 1
    ∷ eqb (refused (given 2 [] None (one ∷ two ∷ []) (Some (sized 1 2)) [] None [] false) (room 2)) 1
    -- the covariance's size; 11 before every 1, 10 before 11, 9 before 10
    ∷ eqb (refused (given 2 [] None [] None (one ∷ two ∷ []) (Some (sized 1 2)) [] false) (room 2)) 3
    ∷ eqb (refused (given 2 [] None [] None [] None [] false) (record { rows = 2; order = 2; weights = 2; correlations = 4; distances = 4; scratch = 8191 })) 11
    ∷ eqb (refused (given 2 [] (Some (sized 1 2)) [] None [] None [] false) (room 1)) 10
    ∷ eqb (refused (given 65 [] (Some (sized 1 2)) [] None [] None [] false) (room 1)) 9
    ∷ []

pub figures : all done && all refusals ≡ true
unfolding distances_in tree_rows tree_order hrp_outcome hrp_table matrix_lines hrp_shape_lines number_lines prices_alone hrp_covariance hrp_covariance_by shrunk_if estimated hrp_return_cells hrp_return_rows absent rows_of_shape other_columns other_size sampled no_returns made_returns is_weekly is_monthly step_of keeps_all kept_rows kept_row sampled_cell return_cell zero_met lower same_bytes is_word mean_of spread covariance_in covariance_cell shrunk_cell count_of of_int too_big misfits correlations_of hrp_distances tree_distances hrp_rows hrp_order hrp_shares seriated_in parity_room_lines hrp_risk_lines first laid over_limit other_length sizes tab grid sum_to sum_on sum_rows any_to range span is_none weights_in factor_of sides_factor halved bisected normal bisection_shares recip recip_sum shares term variance_of outside any_low_of risk_table size_table variance_outcome variance_answer correlation_cell any_low clamped distance_of distance_cell off_diagonal square between between_cell ward_f update_f pair_before near better offer look scan_row scan_from scan_all both movable moved moved_all merged step copied start state_at merge_rows grow tree_at leaves seriated_cell min_of max_of abs_of clamp_of root isqrt lt le eq is_nan neg add sum sub mul div round units odd count_trailing_zeros size ieee-span climb of_fields of_bits to_bits room_lines
figures = refl
