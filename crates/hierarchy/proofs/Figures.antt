-- Document 01's figures for HCAA, and the order of its refusals, computed by antt as one table. Assumes nothing.
use mathlib.Core.Path.{◌≡◌, refl}
use mathlib.Core.Bool.{Bool, true, false, ◌&&◌}
use mathlib.Core.List.{List, [], ◌∷◌, ◌++◌, map}
use Prim.Native.Nat.{ℕ, ◌-◌, ◌*◌}
use lib.Count.{count_trailing_zeros}
use lib.Dec.{eqb}
use lib.ListN.{replicate}
use lib.Ieee.{Float, binary64, size, span as ieee-span, climb, odd, units, round, neg, add, sum, sub, mul, div, of_int, lt, le, eq, is_nan, of_fields, of_bits, to_bits}
use Rattle.arithmetic.specs.Constants.{pz}
use Rattle.arithmetic.specs.Arithmetic.{min_of, max_of, abs_of, clamp_of, finite_of, count_of, one_over}
use Rattle.arithmetic.specs.Root.{isqrt, root}
use Rattle.refusal.specs.Refusal.{number_of, values_of}
use Rattle.refusal.specs.Table.{first, Outcome}
use Rattle.lent.specs.Grid.{tab, grid, sum_to, sum_on, sum_rows, any_to}
use Rattle.lent.specs.Range.{span, range}
use Rattle.lent.specs.Lent.{over_limit, other_length, sizes, laid}
use Rattle.stats.specs.Covariance.{correlation_cell, any_low}
use Rattle.distances.specs.Distances.{clamped, distance_of, distance_cell, off_diagonal, square, between, between_cell}
use Rattle.tree.specs.Tree.{grow, tree_at, leaves}
use Rattle.linkage.specs.Merge.{ward_f, update_f, pair_before, near, better, offer, look, scan_row, scan_from, scan_all, both, movable, moved, moved_all, merged, step, copied, start, state_at, merge_rows}
use Rattle.linkage.specs.declared.Distance.TheVariants.{Correlation}
use Rattle.linkage.specs.declared.Linkage.TheVariants.{Single}
use Rattle.clusters.specs.Clusters.{recip, recip_sum, shares, term, variance_of, outside, any_listed_low as any_low_of, risk_table, size_table, shares_outcome, variance_outcome, variance_answer}
use Rattle.clusters.specs.Shares.{factor_of, is_none, weights_in}
use Rattle.distances.specs.declared.Measure.TheVariants.{Hcaa}
use Rattle.arranging.specs.Arranging.{correlations_of, distances_in, tree_distances, tree_rows, tree_order}
use Rattle.ordering.specs.Nearest.{no_part}
use Rattle.metrics.specs.declared.Metric.{Metric}
use Rattle.metrics.specs.declared.Metric.TheVariants.{MinimumVariance, SharpeRatio, EqualWeighting, ExpectedShortfall}
use Rattle.sharing.specs.Split.{Inputs, bounded, split_by, by_risk, scored, split_of}
use Rattle.sharing.specs.Allot.{spread_of, equal_of, deal_to, varied_of, inside_of, allotted, down_shares}
use Rattle.sharing.specs.Down.{is_sharpe, is_tail_risk, metric_tail_lines, other_rows}
use Rattle.hierarchy.specs.Hierarchy.{Rule, HierarchyCall, Room, hcaa_rows, hcaa_order, hcaa_shares, room_lines, hierarchy_size_lines, hierarchy_shape_lines, expected_lines, rule_lines, hierarchy_judge_table, hcaa_risk_lines, hierarchy_table, hierarchy_outcome, square_lines}
use Rattle.std.specs.Prelude.{Ok, Err}

abbrev all : List Bool → Bool
all [] = true
all (b ∷ bs) = b && all bs

abbrev same : List ℕ → List ℕ → Bool
same [] [] = true
same [] (b ∷ bs) = false
same (a ∷ l) [] = false
same (a ∷ l) (b ∷ bs) = eqb a b && same l bs

abbrev doubles : List ℕ → List Float
doubles bits = map (of_bits binary64) bits

-- 0, or the refusal's number and values
abbrev told : Outcome → List ℕ
told (Ok _) = 0 ∷ []
told (Err r) = number_of r ∷ values_of r

-- the buffers that n assets take
abbrev room : ℕ → Room
room n = record { rows = 2 * (n - 1); order = n; weights = n; scratch = 8192 }

-- and the bits of the weights
abbrev answer : Outcome → Rule → List Float → ℕ → List ℕ
answer o q cov n = told o ++ map (to_bits binary64) (laid pz o n (weights_in (hcaa_shares q Correlation Single cov n)))

abbrev weights : HierarchyCall → List ℕ → ℕ → List ℕ
weights q cov n = answer (hierarchy_outcome q Correlation Single (doubles cov) n n (room n)) q.rule (doubles cov) n

abbrev refused : HierarchyCall → List ℕ → ℕ → ℕ → Room → List ℕ
refused q cov rows w r = told (hierarchy_outcome q Correlation Single (doubles cov) rows w r)

-- no expected returns and no return rows
abbrev none : Inputs
none = record { expected = []; returns = []; return_rows = 0; confidence = pz }

abbrev equal : ℕ → HierarchyCall
equal k = record { rule = record { metric = EqualWeighting; inputs = none; clusters = k }; expected_given = false; return_columns = 0 }

-- expected returns of no entries, given or not
abbrev expecting : Metric → Bool → HierarchyCall
expecting m g = record { rule = record { metric = m; inputs = none; clusters = 0 }; expected_given = g; return_columns = 0 }

-- return rows of so many columns in a slice of so many, and the bits of a confidence; 0 clusters
abbrev tailed : Metric → ℕ → ℕ → ℕ → ℕ → HierarchyCall
tailed m len rows w q =
    record {
      rule = record { metric = m; inputs = record { expected = []; returns = replicate len pz; return_rows = rows; confidence = of_bits binary64 q }; clusters = 0 };
      expected_given = false;
      return_columns = w;
    }

-- the bits of 0, 1/4, the double nearest 1/3, 1/2, 1, the root of 2, and infinity
abbrev p0 : ℕ
p0 = 0x0

abbrev quarter : ℕ
quarter = 0x3fd0_0000_0000_0000

abbrev third : ℕ
third = 0x3fd5_5555_5555_5555

abbrev half : ℕ
half = 0x3fe0_0000_0000_0000

abbrev one : ℕ
one = 0x3ff0_0000_0000_0000

abbrev apart : ℕ
apart = 0x3ff6_a09e_667f_3bcd

abbrev big : ℕ
big = 0x7ff0_0000_0000_0000

-- and of a NaN
abbrev dark : ℕ
dark = 0x7ff8_0000_0000_0000

-- the job: A and B have covariance 0.5, C is alone
abbrev job : List ℕ
job = one ∷ half ∷ p0 ∷ half ∷ one ∷ p0 ∷ p0 ∷ p0 ∷ one ∷ []

-- a covariance of two assets, 0 off its diagonal
abbrev diagonal : ℕ → ℕ → List ℕ
diagonal a b = a ∷ p0 ∷ p0 ∷ b ∷ []

-- the job prints its weights and "order→C→A→B"; "P The job above with 2 clusters: same weights; P with 1: each 3fd5555555555555. Clusters 0 or 4: 6."
-- "P HCAA equal, (infinity, 1): 2 clusters 1, 1 cluster 0.5 each."
abbrev of_scope : List Bool
of_scope =
    same (weights (equal 3) job 3) (0 ∷ quarter ∷ quarter ∷ half ∷ [])
    ∷ same (hcaa_order Correlation Single (doubles job) 3) (2 ∷ 0 ∷ 1 ∷ [])
    ∷ same (weights (equal 2) job 3) (0 ∷ quarter ∷ quarter ∷ half ∷ [])
    ∷ same (weights (equal 1) job 3) (0 ∷ third ∷ third ∷ third ∷ [])
    ∷ same (weights (equal 0) job 3) (6 ∷ 0 ∷ 3 ∷ p0 ∷ p0 ∷ p0 ∷ [])
    ∷ same (weights (equal 4) job 3) (6 ∷ 4 ∷ 3 ∷ p0 ∷ p0 ∷ p0 ∷ [])
    ∷ same (weights (equal 2) (diagonal big one) 2) (1 ∷ p0 ∷ p0 ∷ [])
    ∷ same (weights (equal 1) (diagonal big one) 2) (0 ∷ half ∷ half ∷ [])
    -- "HCAA: root of max(2(1 − c), 0)"
    ∷ same (map (to_bits binary64) (distances_in Hcaa (correlations_of (doubles (diagonal one one)) 2) 2)) (p0 ∷ apart ∷ apart ∷ p0 ∷ [])
    ∷ []

abbrev refusals : List Bool
refusals =
    -- a variance of 0, which the sharing alone would pass; 6 before it
    same (refused (equal 1) (diagonal p0 one) 2 2 (room 2)) (1 ∷ [])
    ∷ same (refused (equal 3) (diagonal p0 one) 2 2 (room 2)) (6 ∷ 3 ∷ 2 ∷ [])
    -- Sharpe's 3 and 4 before 6, and for Sharpe alone
    ∷ same (refused (expecting SharpeRatio true) (diagonal one one) 2 2 (room 2)) (3 ∷ [])
    ∷ same (refused (expecting SharpeRatio false) (diagonal one one) 2 2 (room 2)) (4 ∷ [])
    ∷ same (refused (expecting MinimumVariance true) (diagonal one one) 2 2 (room 2)) (6 ∷ 0 ∷ 2 ∷ [])
    -- no assets before another size, and that before Sharpe's; 11 before both; 10 before 11
    ∷ same (refused (equal 0) [] 2 0 (room 0)) (1 ∷ [])
    ∷ same (refused (expecting SharpeRatio false) (one ∷ one ∷ []) 1 2 (room 2)) (3 ∷ [])
    ∷ same (refused (equal 0) [] 2 0 (record { rows = 0; order = 0; weights = 0; scratch = 8191 })) (11 ∷ [])
    ∷ same (refused (equal 0) (one ∷ one ∷ []) 1 2 (record { rows = 1; order = 2; weights = 2; scratch = 8192 })) (11 ∷ [])
    ∷ same (refused (equal 0) (one ∷ []) 1 2 (room 1)) (10 ∷ [])
    ∷ []

-- document 02, request 1: "16, no return rows, comes .. before 6; 17, under these two metrics, confidence NaN or outside 0 to 1, right after 16"
abbrev of_tails : List Bool
of_tails =
    same (refused (tailed ExpectedShortfall 0 0 0 dark) (diagonal one one) 2 2 (room 2)) (16 ∷ [])
    ∷ same (refused (tailed ExpectedShortfall 2 1 2 dark) (diagonal one one) 2 2 (room 2)) (17 ∷ [])
    ∷ same (refused (tailed ExpectedShortfall 2 1 2 big) (diagonal one one) 2 2 (room 2)) (17 ∷ [])
    ∷ same (refused (tailed ExpectedShortfall 2 1 2 one) (diagonal one one) 2 2 (room 2)) (6 ∷ 0 ∷ 2 ∷ [])
    -- rows of another width are 3 where they are read
    ∷ same (refused (tailed ExpectedShortfall 1 1 1 dark) (diagonal one one) 2 2 (room 2)) (3 ∷ [])
    ∷ same (refused (tailed MinimumVariance 1 1 1 dark) (diagonal one one) 2 2 (room 2)) (6 ∷ 0 ∷ 2 ∷ [])
    -- their 9 before any 10, and their 10 before 11
    ∷ same (refused (tailed MinimumVariance 1 4097 0 dark) (one ∷ []) 2 2 (room 2)) (9 ∷ [])
    ∷ same (refused (tailed MinimumVariance 1 1 2 dark) (diagonal one one) 2 2 (room 1)) (10 ∷ [])
    ∷ []

pub figures : all of_scope && (all refusals && all of_tails) ≡ true
unfolding hcaa_rows hcaa_order hcaa_shares room_lines hierarchy_size_lines hierarchy_shape_lines is_tail_risk metric_tail_lines other_rows no_part expected_lines rule_lines hierarchy_judge_table hcaa_risk_lines hierarchy_table hierarchy_outcome correlations_of distances_in tree_distances tree_rows tree_order is_sharpe down_shares allotted inside_of varied_of equal_of spread_of deal_to split_of scored factor_of by_risk split_by bounded first laid over_limit other_length sizes tab grid sum_to sum_on sum_rows any_to range span is_none weights_in recip recip_sum shares term variance_of outside any_low_of risk_table size_table shares_outcome variance_outcome variance_answer correlation_cell any_low clamped distance_of distance_cell off_diagonal square between between_cell ward_f update_f pair_before near better offer look scan_row scan_from scan_all both movable moved moved_all merged step copied start state_at merge_rows grow tree_at leaves min_of max_of abs_of clamp_of finite_of count_of one_over root isqrt lt le eq is_nan neg add sum sub mul div of_int round units odd count_trailing_zeros size ieee-span climb of_fields of_bits to_bits square_lines
figures = refl
