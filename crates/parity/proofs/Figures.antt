-- Document 01's figures for HRP, and the order of its refusals, computed by antt as one table. Assumes nothing.
use mathlib.Core.Path.{◌≡◌, refl}
use mathlib.Core.Bool.{Bool, true, false, ◌&&◌}
use mathlib.Core.List.{List, [], ◌∷◌}
use Prim.Native.Nat.{ℕ, ◌-◌, ◌*◌}
use lib.Count.{count_trailing_zeros}
use lib.Dec.{eqb}
use lib.Ieee.{Float, binary64, size, span as ieee-span, climb, odd, units, round, neg, add, sum, sub, mul, div, lt, le, eq, is_nan, of_fields, of_bits, to_bits}
use Rattle.arithmetic.specs.Constants.{pz}
use Rattle.arithmetic.specs.Arithmetic.{min_of, max_of, abs_of, clamp_of}
use Rattle.arithmetic.specs.Root.{isqrt, root}
use Rattle.refusal.specs.Refusal.{number_of}
use Rattle.refusal.specs.Table.{first, Outcome}
use Rattle.lent.specs.Grid.{tab, grid, sum_to, sum_on, sum_rows, any_to}
use Rattle.lent.specs.Range.{span, range}
use Rattle.lent.specs.Lent.{over_limit, other_length, sizes, laid}
use Rattle.stats.specs.Covariance.{correlation_cell, any_low}
use Rattle.distances.specs.Distances.{clamped, distance_of, distance_cell, off_diagonal, square, between, between_cell}
use Rattle.tree.specs.Tree.{grow, tree_at, leaves}
use Rattle.tree.specs.Order.{seriated_cell}
use Rattle.linkage.specs.Merge.{ward_f, update_f, pair_before, near, better, offer, look, scan_row, scan_from, scan_all, both, movable, moved, moved_all, merged, step, copied, start, state_at, merge_rows}
use Rattle.linkage.specs.declared.Distance.{Distance}
use Rattle.linkage.specs.declared.Distance.TheVariants.{Correlation, DistanceOfDistances}
use Rattle.arranging.specs.Arranging.{distances_in, tree_rows, tree_order}
use Rattle.clusters.specs.Clusters.{recip, recip_sum, shares, term, variance_of, outside, any_listed_low as any_low_of, risk_table, size_table, variance_outcome, variance_answer}
use Rattle.clusters.specs.Shares.{is_none, weights_in}
use Rattle.bisection.specs.Bisection.{factor_of, sides_factor, halved, bisected, normal, bisection_shares}
use Rattle.parity.specs.Parity.{ParityRoom, correlations_of, hrp_distances, tree_distances, hrp_rows, hrp_order, hrp_shares, seriated_in, parity_room_lines, parity_judge_table, hrp_risk_lines, parity_table, parity_outcome, room_lines, square_lines}
use Rattle.std.specs.Prelude.{Ok, Err}

abbrev all : List Bool → Bool
all [] = true
all (b ∷ bs) = b && all bs

abbrev same : List ℕ → List ℕ → Bool
same [] [] = true
same [] (b ∷ bs) = false
same (a ∷ l) [] = false
same (a ∷ l) (b ∷ bs) = eqb a b && same l bs

abbrev doubles : List ℕ → List Float
doubles [] = []
doubles (b ∷ bs) = of_bits binary64 b ∷ doubles bs

abbrev bits : List Float → List ℕ
bits [] = []
bits (x ∷ l) = to_bits binary64 x ∷ bits l

-- 0, or the refusal's number
abbrev number : Outcome → ℕ
number (Ok _) = 0
number (Err r) = number_of r

-- the number of n assets in buffers of just the sizes asked, and the bits of the weights
abbrev room : ℕ → ParityRoom
room n = record { rows = 2 * (n - 1); order = n; weights = n; correlations = n * n; distances = n * n; scratch = 8192 }

abbrev told : Outcome → Distance → List Float → ℕ → List ℕ
told o d cov n = number o ∷ bits (laid pz o n (weights_in (hrp_shares d cov n)))

abbrev weights : Distance → List ℕ → ℕ → List ℕ
weights d cov n = told (parity_outcome d (doubles cov) n n (room n)) d (doubles cov) n

abbrev refused : List ℕ → ℕ → ℕ → ParityRoom → ℕ
refused cov rows w r = number (parity_outcome Correlation (doubles cov) rows w r)

abbrev p0 : ℕ
p0 = 0x0

abbrev one : ℕ
one = 0x3ff0_0000_0000_0000

abbrev three : ℕ
three = 0x4008_0000_0000_0000

-- infinity, NaN
abbrev big : ℕ
big = 0x7ff0_0000_0000_0000

abbrev no : ℕ
no = 0x7ff8_0000_0000_0000

-- the root of 1/2
abbrev apart : ℕ
apart = 0x3fe6_a09e_667f_3bcd

-- a covariance of two assets, 0 off its diagonal
abbrev diagonal : ℕ → ℕ → List ℕ
diagonal a b = a ∷ p0 ∷ p0 ∷ b ∷ []

-- "P HRP, diagonal covariance (1, 3): 0.75, 0.25. P (NaN, 1): 1, 0. P HRP (infinity, 1): 1; one asset of infinite variance: weight 1."
abbrev of_scope : Distance → List Bool
of_scope d =
    same (weights d (diagonal one three) 2) (0 ∷ 0x3fe8_0000_0000_0000 ∷ 0x3fd0_0000_0000_0000 ∷ [])
    ∷ same (weights d (diagonal no one) 2) (0 ∷ one ∷ p0 ∷ [])
    ∷ same (weights d (diagonal big one) 2) (1 ∷ p0 ∷ p0 ∷ [])
    ∷ same (weights d (big ∷ []) 1) (0 ∷ one ∷ [])
    ∷ []

-- three assets, of which 1 and 2 go together, and their seriated matrices: 1 and 2 have correlation 1
abbrev cov3 : List Float
cov3 = doubles (one ∷ p0 ∷ p0 ∷ p0 ∷ one ∷ one ∷ p0 ∷ one ∷ one ∷ [])

abbrev others : List Bool
others =
    same (hrp_rows DistanceOfDistances cov3 3) (1 ∷ 2 ∷ 0 ∷ 3 ∷ [])
    ∷ same (hrp_order DistanceOfDistances cov3 3) (0 ∷ 1 ∷ 2 ∷ [])
    ∷ same (bits (seriated_in (2 ∷ 0 ∷ 1 ∷ []) (correlations_of cov3 3) 3)) (one ∷ p0 ∷ one ∷ p0 ∷ one ∷ p0 ∷ one ∷ p0 ∷ one ∷ [])
    ∷ same (bits (seriated_in (2 ∷ 0 ∷ 1 ∷ []) (hrp_distances cov3 3) 3)) (p0 ∷ apart ∷ p0 ∷ apart ∷ p0 ∷ apart ∷ p0 ∷ apart ∷ p0 ∷ [])
    ∷ []

abbrev refusals : List Bool
refusals =
    -- a variance of 0; no assets before another size; 11 before both; 10 before 11
    eqb (refused (diagonal p0 one) 2 2 (room 2)) 1
    ∷ eqb (refused [] 2 0 (room 0)) 1
    ∷ eqb (refused (one ∷ one ∷ []) 1 2 (room 2)) 3
    ∷ eqb (refused (one ∷ one ∷ []) 1 2 (record { rows = 2; order = 2; weights = 2; correlations = 4; distances = 3; scratch = 8192 })) 11
    ∷ eqb (refused [] 2 0 (record { rows = 0; order = 0; weights = 0; correlations = 0; distances = 0; scratch = 8191 })) 11
    ∷ eqb (refused (one ∷ []) 1 2 (room 1)) 10
    ∷ []

pub figures : all (of_scope Correlation) && all (of_scope DistanceOfDistances) && all others && all refusals ≡ true
unfolding distances_in tree_rows tree_order correlations_of hrp_distances tree_distances hrp_rows hrp_order hrp_shares seriated_in parity_room_lines parity_judge_table hrp_risk_lines parity_table parity_outcome first laid over_limit other_length sizes tab grid sum_to sum_on sum_rows any_to range span is_none weights_in factor_of sides_factor halved bisected normal bisection_shares recip recip_sum shares term variance_of outside any_low_of risk_table size_table variance_outcome variance_answer correlation_cell any_low clamped distance_of distance_cell off_diagonal square between between_cell ward_f update_f pair_before near better offer look scan_row scan_from scan_all both movable moved moved_all merged step copied start state_at merge_rows grow tree_at leaves seriated_cell min_of max_of abs_of clamp_of root isqrt lt le eq is_nan neg add sum sub mul div round units odd count_trailing_zeros size ieee-span climb of_fields of_bits to_bits room_lines square_lines
figures = refl
