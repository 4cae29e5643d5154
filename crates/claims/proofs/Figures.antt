-- Document 01, "Figures to check (P: proved)": its P figures, document 02's of request 1, and five job texts with their listings, the first with its sheet too and one under ceilings, as one table under one claim, computed from the definitions that the public functions' contracts cite. Assumes nothing.
use mathlib.Core.Path.{◌≡◌, refl}
use mathlib.Core.Bool.{Bool, true, false, ◌&&◌}
use mathlib.Core.List.{List, [], ◌∷◌, ◌++◌, map}
use Prim.Native.Nat.{ℕ, ◌-◌, ◌*◌}
use lib.Count.{count_trailing_zeros}
use lib.Dec.{eqb}
use lib.ListN.{take, replicate}
use lib.Ieee.{Float, nan, binary64, size, span as ieee-span, climb, odd, units, round, neg, add, sum, sub, mul, div, of_int, lt, le, eq, is_nan, of_fields, of_bits, to_bits}
use Rattle.arithmetic.specs.Constants.{pz}
use Rattle.arithmetic.specs.Arithmetic.{min_of, max_of, abs_of, clamp_of, finite_of, count_of, one_over}
use Rattle.arithmetic.specs.Root.{isqrt, root}
use Rattle.refusal.specs.Refusal.{number_of, values_of}
use Rattle.refusal.specs.Table.{first, and_then, Outcome}
use Rattle.lent.specs.Count.{count, upto, over_all}
use Rattle.lent.specs.Grid.{tab, grid, sum_to, sum_on, sum_rows, any_to}
use Rattle.lent.specs.Range.{span, range}
use Rattle.lent.specs.Lent.{shape_of, over_limit, other_length, too_big, misfits, sizes, laid, size as sized}
use Rattle.text.specs.Bytes.{bytes, same, lower, lowered, is_word}
use Rattle.fields.specs.Split.{onto, split, all as every}
use Rattle.fields.specs.Numerals.{digit, number, is_bits, numeral_read, is_numeral}
use Rattle.decimals.specs.Decimal as decimals
use Rattle.resample.specs.Resample.{is_weekly, is_monthly, step_of, keeps_all, kept_rows, kept_row, sampled_cell, return_cell, zero_met, breaks_price_rules}
use Rattle.fractions.specs.Fractions.{in_range, whole_part, left_over, whole_at, left_at, sooner, rank_of}
use Rattle.millionths.specs.Millionths.{whole_total, missing, millionths_at, millionths_in, out_of_reach, millionths_lines, millionths_table, millionths_outcome, millionths_laid}
use Rattle.ceilings.specs.Ceilings as ceilings
use Rattle.ceilings.specs.Figures.{figures_in, figures_lines}
use Rattle.ceilings.specs.Written.{ceiling_of, is_ceiling}
use Rattle.stats.specs.Covariance.{mean_of, spread, covariance_of, covariance_cell, correlation_cell, any_low}
use Rattle.distances.specs.Distances.{clamped, distance_of, distance_cell, off_diagonal, square, between, between_cell}
use Rattle.tree.specs.Rows.{below, once, is_tree}
use Rattle.tree.specs.Tree.{grow, tree_at, leaves}
use Rattle.tree.specs.Order as order
use Rattle.linkage.specs.Names.{distance_named, linkage_named}
use Rattle.linkage.specs.Merge.{ward_f, update_f, pair_before, near, better, offer, look, scan_row, scan_from, scan_all, both, movable, moved, moved_all, merged, step, copied, start, state_at, merge_rows}
use Rattle.linkage.specs.Children.{children_table, children_outcome, children_rows}
use Rattle.linkage.specs.declared.Distance.{Distance}
use Rattle.linkage.specs.declared.Distance.TheVariants.{Correlation, DistanceOfDistances}
use Rattle.linkage.specs.declared.Linkage.{Linkage}
use Rattle.linkage.specs.declared.Linkage.TheVariants.{Single, Complete, Average, Ward}
use Rattle.names.specs.Names.{is_name}
use Rattle.heading.specs.Heading as heading
use Rattle.reading.specs.Reading as reading
use Rattle.clusters.specs.Clusters.{recip, recip_sum, shares, term, variance_of, outside, any_listed_low as any_low_of, risk_table, size_table, shares_outcome, variance_outcome, variance_answer}
use Rattle.clusters.specs.Shares.{is_none, weights_in}
use Rattle.ordering.specs.Order as ordered
use Rattle.ordering.specs.Nearest as nearest
use Rattle.tails.specs.Tail as tail
use Rattle.bisection.specs.Bisection as bisection
use Rattle.sharing.specs.Names.{metric_named}
use Rattle.sharing.specs.Split as sharing
use Rattle.sharing.specs.Allot as allot
use Rattle.sharing.specs.Down.{is_sharpe, is_tail_risk, metric_tail_lines}
use Rattle.inputs.specs.Inputs.{absent, rows_of_shape, other_columns, other_size, matrix_lines, sampled, no_returns, made_returns}
use Rattle.arranging.specs.Arranging.{distances_in, tree_rows, tree_order}
use Rattle.parity.specs.Parity as parity
use Rattle.hierarchy.specs.Hierarchy as hierarchy
use Rattle.hrp.specs.Hrp as hrp
use Rattle.hcaa.specs.Hcaa as hcaa
use Rattle.writing.specs.Writing as writing
use Rattle.listing.specs.Listing as listing
use Rattle.branches.specs.Branch as branch
use Rattle.groups.specs.Groups as groups
use Rattle.job.specs.Job as job
use Rattle.job.specs.declared.Form.TheVariants as form
use Rattle.std.specs.Prelude.{Some, Ok, None, Err}
use Rattle.hcaa.specs.Outcomes.{Clusters}
use Rattle.reading.specs.Outcomes.{Reading}
use Rattle.reading.specs.declared.Job.TheVariants as jobs

-- ---- bits, and answers in them

-- 0, 1/4, the double nearest 1/3, 1/2, 3/4, 1, 2, 3, −1, −3, infinity, NaN
abbrev p0 : ℕ
p0 = 0x0

abbrev quarter : ℕ
quarter = 0x3fd0_0000_0000_0000

abbrev third : ℕ
third = 0x3fd5_5555_5555_5555

abbrev half : ℕ
half = 0x3fe0_0000_0000_0000

abbrev most : ℕ
most = 0x3fe8_0000_0000_0000

abbrev one : ℕ
one = 0x3ff0_0000_0000_0000

abbrev two : ℕ
two = 0x4000_0000_0000_0000

abbrev three : ℕ
three = 0x4008_0000_0000_0000

abbrev minus1 : ℕ
minus1 = 0xbff0_0000_0000_0000

abbrev minus3 : ℕ
minus3 = 0xc008_0000_0000_0000

abbrev infinity : ℕ
infinity = 0x7ff0_0000_0000_0000

abbrev no : ℕ
no = 0x7ff8_0000_0000_0000

abbrev doubles : List ℕ → List Float
doubles xs = map (of_bits binary64) xs

abbrev bits : List Float → List ℕ
bits xs = map (to_bits binary64) xs

-- 0, or the refusal's number and values
abbrev told : Outcome → List ℕ
told (Ok _) = 0 ∷ []
told (Err r) = number_of r ∷ values_of r

-- 2 assets, 0 off the diagonal
abbrev diagonal : ℕ → ℕ → List Float
diagonal a b = doubles (a ∷ p0 ∷ p0 ∷ b ∷ [])

-- ---- merge rows and leaves

-- 1 − 2^-40 and 1 − 2^-39
abbrev below40 : ℕ
below40 = 0x3fef_ffff_ffff_e000

abbrev below39 : ℕ
below39 = 0x3fef_ffff_ffff_c000

-- the rows of 3 and of 4 assets, by their distances d01, d02, d12 and so on
abbrev rows3 : ℕ → ℕ → ℕ → List ℕ
rows3 x y z = children_rows Single (doubles (p0 ∷ x ∷ y ∷ x ∷ p0 ∷ z ∷ y ∷ z ∷ p0 ∷ [])) 3 3 4

abbrev alike4 : ℕ → List ℕ
alike4 x = children_rows Single (doubles (p0 ∷ x ∷ x ∷ x ∷ x ∷ p0 ∷ x ∷ x ∷ x ∷ x ∷ p0 ∷ x ∷ x ∷ x ∷ x ∷ p0 ∷ [])) 4 4 6

abbrev nans : Linkage → List ℕ
nans l = children_rows l (replicate 9 nan) 3 3 4

-- the leaves under the last of 3 assets' nodes
abbrev leaves3 : List ℕ → List ℕ
leaves3 rows = order.order_laid rows 3 4 3

abbrev trees : List Bool
trees =
    -- "3 by 3 all NaN: rows [0,1],[2,3], leaves 2, 0, 1", by every linkage
    same (nans Single) (0 ∷ 1 ∷ 2 ∷ 3 ∷ [])
    ∷ same (nans Complete) (0 ∷ 1 ∷ 2 ∷ 3 ∷ [])
    ∷ same (nans Average) (0 ∷ 1 ∷ 2 ∷ 3 ∷ [])
    ∷ same (nans Ward) (0 ∷ 1 ∷ 2 ∷ 3 ∷ [])
    ∷ same (leaves3 (nans Single)) (2 ∷ 0 ∷ 1 ∷ [])
    -- "Four assets, every distance 1, single: [0,1],[2,3],[4,5]."
    ∷ same (alike4 one) (0 ∷ 1 ∷ 2 ∷ 3 ∷ 4 ∷ 5 ∷ [])
    -- "d01 = 1, d02 = d12 = 1 − 2^-40: [0,1] first."
    ∷ same (take 2 (rows3 one below40 below40)) (0 ∷ 1 ∷ [])
    -- "d01 = d02 = 1, d12 = 1 − 2^-39: [1,2] first."
    ∷ same (take 2 (rows3 one one below39)) (1 ∷ 2 ∷ [])
    ∷ []

-- ---- HCAA

-- n assets of this covariance: a metric, clusters, distance and linkage
abbrev given : ℕ → List Float → List ℕ → Clusters → Distance → Linkage → hcaa.HcaaJob
given n cov metric k d l = record {
  assets = n;
  prices = [];
  prices_shape = None;
  returns = [];
  returns_shape = None;
  covariance = cov;
  covariance_shape = Some (sized n n);
  expected = [];
  expected_given = false;
  metric = metric;
  method = [];
  confidence = of_bits binary64 half;
  clusters = k;
  resample_by = [];
  distance = d;
  linkage = l;
}

-- what a call says; then, by its outcome, the bits of the weights, their millionths, and the leaf order, in buffers of just the sizes that n assets ask
abbrev buffers : Outcome → hcaa.HcaaJob → ℕ → List ℕ
buffers o j n =
    let ws : List Float = laid pz o n (weights_in (hierarchy.hcaa_shares (hcaa.used_rule j) j.distance j.linkage (hcaa.hcaa_covariance j) n)) in
    told o ++ (bits ws ++ (millionths_laid ws n ++ laid 0 o n (hierarchy.hcaa_order j.distance j.linkage (hcaa.hcaa_covariance j) n)))

abbrev shared : hcaa.HcaaJob → ℕ → List ℕ
shared j n = buffers (hcaa.hcaa_outcome j (record { rows = 2 * (n - 1); order = n; weights = n; scratch = 8192 })) j n

abbrev pair : ℕ → ℕ → ℕ → List ℕ
pair a b k = shared (given 2 (diagonal a b) (bytes "equal_weighting") (Some k) Correlation Single) 2

-- "this input", with its clusters
abbrev text : List ℕ → List ℕ
text clusters =
    bytes "hcaa\tequal_weighting\tsingle\tcorrelation\t" ++ clusters ++ bytes "\n"
    ++ bytes "A\t3ff0000000000000\t3fe0000000000000\t0000000000000000\n"
    ++ bytes "B\t3fe0000000000000\t3ff0000000000000\t0000000000000000\n"
    ++ bytes "C\t0000000000000000\t0000000000000000\t3ff0000000000000\n"

-- the call that a text asks for, by what is read in it
abbrev called : Reading → List ℕ → List ℕ
called (Err r) t = number_of r ∷ []
called (Ok (jobs.Hrp b d)) t = []
called (Ok (jobs.Hcaa b l d)) t = shared (job.hcaa_job_in t l d) b.assets

abbrev asks : List ℕ → List ℕ
asks clusters = called (reading.read_of (text clusters) job.room_of_reader) (text clusters)

abbrev hcaas : List Bool
hcaas =
    -- the input prints these bits and millionths, and "order→C→A→B"
    same (asks (bytes "-")) (0 ∷ quarter ∷ quarter ∷ half ∷ 250000 ∷ 250000 ∷ 500000 ∷ 2 ∷ 0 ∷ 1 ∷ [])
    ∷ same (asks (bytes "3")) (0 ∷ quarter ∷ quarter ∷ half ∷ 250000 ∷ 250000 ∷ 500000 ∷ 2 ∷ 0 ∷ 1 ∷ [])
    -- "The job above with 2 clusters: same weights"
    ∷ same (asks (bytes "2")) (0 ∷ quarter ∷ quarter ∷ half ∷ 250000 ∷ 250000 ∷ 500000 ∷ 2 ∷ 0 ∷ 1 ∷ [])
    -- "with 1: each 3fd5555555555555"; document 02, request 3: "The 333333 figure of document 01 becomes 333334, 333333, 333333."
    ∷ same (asks (bytes "1")) (0 ∷ third ∷ third ∷ third ∷ 333334 ∷ 333333 ∷ 333333 ∷ 2 ∷ 0 ∷ 1 ∷ [])
    -- "Clusters 0 or 4: 6.", with the count asked and the assets
    ∷ same (asks (bytes "0")) (6 ∷ 0 ∷ 3 ∷ p0 ∷ p0 ∷ p0 ∷ 0 ∷ 0 ∷ 0 ∷ 0 ∷ 0 ∷ 0 ∷ [])
    ∷ same (asks (bytes "4")) (6 ∷ 4 ∷ 3 ∷ p0 ∷ p0 ∷ p0 ∷ 0 ∷ 0 ∷ 0 ∷ 0 ∷ 0 ∷ 0 ∷ [])
    -- "HCAA equal, (infinity, 1): 2 clusters 1, 1 cluster 0.5 each."
    ∷ same (pair infinity one 2) (1 ∷ p0 ∷ p0 ∷ 0 ∷ 0 ∷ 0 ∷ 0 ∷ [])
    ∷ same (pair infinity one 1) (0 ∷ half ∷ half ∷ 500000 ∷ 500000 ∷ 0 ∷ 1 ∷ [])
    ∷ []

-- ---- document 02, request 1: two assets of unit covariance, with rows of returns and a confidence

abbrev risky : List ℕ → ℕ → List ℕ → ℕ → Clusters → hcaa.HcaaJob
risky metric h cells q k = record {
  assets = 2;
  prices = [];
  prices_shape = None;
  returns = doubles cells;
  returns_shape = Some (sized h 2);
  covariance = diagonal one one;
  covariance_shape = Some (sized 2 2);
  expected = [];
  expected_given = false;
  metric = metric;
  method = [];
  confidence = of_bits binary64 q;
  clusters = k;
  resample_by = [];
  distance = Correlation;
  linkage = Single;
}

abbrev tailed : List ℕ → ℕ → List ℕ → ℕ → Clusters → List ℕ
tailed metric h cells q k = shared (risky metric h cells q k) 2

abbrev tails : List Bool
tails =
    -- returns (−3, −1), (1, −1) and confidence 0.5: the index is a half, and goes to the even entry, so that the shortfalls are 3 and 1
    same (tailed (bytes "expected_shortfall") 2 (minus3 ∷ minus1 ∷ one ∷ minus1 ∷ []) half None) (0 ∷ quarter ∷ most ∷ 250000 ∷ 750000 ∷ 0 ∷ 1 ∷ [])
    -- a wealth of 1, −2, −2 and one of 1, 0, 0: the drawdowns, the start counted, are 0, 3, 3 and 0, 1, 1
    ∷ same (tailed (bytes "conditional_drawdown_risk") 2 (minus3 ∷ minus1 ∷ p0 ∷ p0 ∷ []) half None) (0 ∷ quarter ∷ most ∷ 250000 ∷ 750000 ∷ 0 ∷ 1 ∷ [])
    -- "16, no return rows", before 17; 17 for a NaN and for a confidence above 1, before 6; then 6
    ∷ same (tailed (bytes "expected_shortfall") 0 [] no (Some 0)) (16 ∷ p0 ∷ p0 ∷ 0 ∷ 0 ∷ 0 ∷ 0 ∷ [])
    ∷ same (tailed (bytes "expected_shortfall") 1 (one ∷ one ∷ []) no (Some 0)) (17 ∷ p0 ∷ p0 ∷ 0 ∷ 0 ∷ 0 ∷ 0 ∷ [])
    ∷ same (tailed (bytes "conditional_drawdown_risk") 1 (one ∷ one ∷ []) two (Some 0)) (17 ∷ p0 ∷ p0 ∷ 0 ∷ 0 ∷ 0 ∷ 0 ∷ [])
    ∷ same (tailed (bytes "conditional_drawdown_risk") 1 (one ∷ one ∷ []) one (Some 0)) (6 ∷ 0 ∷ 2 ∷ p0 ∷ p0 ∷ 0 ∷ 0 ∷ 0 ∷ 0 ∷ [])
    -- another metric reads neither
    ∷ same (tailed (bytes "equal_weighting") 0 [] no None) (0 ∷ half ∷ half ∷ 500000 ∷ 500000 ∷ 0 ∷ 1 ∷ [])
    ∷ []

-- ---- HRP

-- a covariance of n assets; what the call says, and the bits of the weights
abbrev halving : Distance → ℕ → List Float → hrp.HrpJob
halving d n cov = record {
  assets = n;
  prices = [];
  prices_shape = None;
  returns = [];
  returns_shape = None;
  covariance = cov;
  covariance_shape = Some (sized n n);
  resample_by = [];
  use_shrinkage = false;
  distance = d;
}

abbrev weighed : Outcome → hrp.HrpJob → ℕ → List ℕ
weighed o j n = told o ++ bits (laid pz o n (weights_in (parity.hrp_shares j.distance (hrp.hrp_covariance j) n)))

abbrev halved : Distance → ℕ → List Float → List ℕ
halved d n cov = weighed (hrp.hrp_outcome (halving d n cov) (record { rows = 2 * (n - 1); order = n; weights = n; correlations = n * n; distances = n * n; scratch = 8192 })) (halving d n cov) n

abbrev hrps : Distance → List Bool
hrps d =
    -- "HRP, diagonal covariance (1, 3): 0.75, 0.25."
    same (halved d 2 (diagonal one three)) (0 ∷ most ∷ quarter ∷ [])
    -- "(NaN, 1): 1, 0."
    ∷ same (halved d 2 (diagonal no one)) (0 ∷ one ∷ p0 ∷ [])
    -- "HRP (infinity, 1): 1"
    ∷ same (halved d 2 (diagonal infinity one)) (1 ∷ p0 ∷ p0 ∷ [])
    -- "one asset of infinite variance: weight 1."
    ∷ same (halved d 1 (doubles (infinity ∷ []))) (0 ∷ one ∷ [])
    ∷ []

-- ---- job texts and their listings

-- a text is accepted, and lists this
abbrev lists : List ℕ → List ℕ → Bool
lists t l = same (told (job.job_outcome t form.Listing 8192)) (0 ∷ []) && same (job.listing_of t) l

-- and its sheet is this
abbrev sheeted : List ℕ → Bool → ℕ → List ℕ → Bool
sheeted t named room l = same (told (job.job_outcome t (form.Sheet named) room)) (0 ∷ []) && same (job.sheet_of t named) l

abbrev listings : List Bool
listings =
    -- "this input prints name, weight bits, millionths, then the leaf order"
    lists (text (bytes "-")) (bytes "A\t3fd0000000000000\t250000\nB\t3fd0000000000000\t250000\nC\t3fe0000000000000\t500000\norder\tC\tA\tB\n")
    -- by a worst day's loss of 1/4 and of 3/4, as request 1's figure
    ∷ lists (bytes "hcaa\texpected_shortfall\tsingle\tcorrelation\t-\tprices\nA\tB\n4\t4.00\n3\t1\n4\t04\n")
    (bytes "A\t3fe8000000000000\t750000\nB\t3fd0000000000000\t250000\norder\tA\tB\n")
    -- of variances 1/8 and 2: 16/17 and 1/17
    ∷ lists (bytes "hrp\tcorrelation\tprices\nA\tB\n1\t1.0\n2.00\t3\n3\t4008000000000000\n")
    (bytes "A\t3fee1e1e1e1e1e1e\t941176\nB\t3fae1e1e1e1e1e20\t58824\norder\tA\tB\n")
    -- HRP's figure above as a text; and document 02, request 10: A cut to its ceiling, and what was cut handed to B
    ∷ lists (bytes "hrp\tcorrelation\nA\t1\t0\nB\t0\t3\n") (bytes "A\t3fe8000000000000\t750000\nB\t3fd0000000000000\t250000\norder\tA\tB\n")
    ∷ lists (bytes "hrp\tcorrelation\tceilings\nA\t1\t0\t500000\nB\t0\t3\t0600000\n")
    (bytes "A\t3fe8000000000000\t500000\t500000\nB\t3fd0000000000000\t500000\t600000\norder\tA\tB\n")
    -- document 02, request 13: "a line per node from the root down, left first: depth, size, subtotal"; and with names
    ∷ sheeted (text (bytes "-")) false 8192 (bytes "0\t3\t1000000\n1\t1\t500000\n1\t2\t500000\n2\t1\t250000\n2\t1\t250000\n")
    ∷ sheeted (text (bytes "-")) true 32768 (bytes "0\t3\t1000000\n  1\t1\t500000\tC\n  1\t2\t500000\n    2\t1\t250000\tA\n    2\t1\t250000\tB\n")
    ∷ []

-- ---- roots

abbrev roots : List Bool
roots =
    -- "Root of 2 is 3ff6a09e667f3bcd"
    eqb (to_bits binary64 (root (of_bits binary64 two))) 0x3ff6_a09e_667f_3bcd
    -- "of 2^-1074 is 2^-537."
    ∷ eqb (to_bits binary64 (root (of_bits binary64 1))) 0x1e60_0000_0000_0000
    ∷ []

abbrev all : List Bool → Bool
all [] = true
all (b ∷ bs) = b && all bs

abbrev table : List Bool
table = trees ++ (hcaas ++ (tails ++ (hrps Correlation ++ (hrps DistanceOfDistances ++ (listings ++ roots)))))

-- "The P figures are proved as one table under one claim"
pub figures : all table ≡ true
unfolding and_then same lower lowered is_word children_table children_outcome children_rows ward_f update_f pair_before near better offer look scan_row scan_from scan_all both movable moved moved_all merged step copied start state_at merge_rows order.order_table order.order_outcome order.order_laid count below once is_tree grow tree_at leaves onto split digit number is_bits is_numeral numeral_read decimals.is_cell decimals.cell_of decimals.is_decimal decimals.decimal_of decimals.signed_by decimals.over_tens decimals.digits_of decimals.is_bare decimals.shaped decimals.bare decimals.signed distance_named linkage_named heading.clusters_of heading.prices_after heading.ceilings_after heading.is_of heading.is_hrp heading.is_hcaa heading.own_fields heading.is_priced heading.is_ceiled heading.distance_field heading.unknown_lines heading.head_of reading.priced reading.ceiled reading.head_in reading.rows_in reading.assets is_name is_ceiling ceiling_of reading.is_row reading.row_fields reading.is_asset reading.is_day reading.is_names reading.is_ceilings reading.is_covariance reading.is_prices reading.is_block reading.is_job reading.text_cell reading.cells_in reading.name_of reading.text_ceiling reading.ceilings_in reading.is_over reading.text_lines reading.read_table reading.read_outcome reading.block_in reading.job_in reading.read_of job.cells_if job.hrp_job_in job.hcaa_job_in job.allocator_says job.job_weights job.job_order job.figures_of job.least_for job.text_table job.job_outcome job.listing_of job.job_rows job.sheet_of branch.walk branch.branches branch.find branch.first_of branch.size_of branch.depth_of branch.members_of branch.subtotal over_all groups.group_of groups.group_fields groups.indent groups.tag_of groups.group_line groups.nodes_down groups.line_down groups.group_sheet groups.least_sheet shape_of is_weekly is_monthly step_of keeps_all kept_rows kept_row sampled_cell return_cell zero_met breaks_price_rules sampled no_returns made_returns mean_of spread covariance_of covariance_cell hrp.estimated hrp.shrunk_if hcaa.names_judged hcaa.rows_judged hcaa.sharpe_judged listing.listing writing.joined listing.ceiling_at listing.holding_at listing.ceiling_field listing.holding_line listing.line_of listing.ordered writing.decimal writing.hex_of writing.places writing.digits writing.digit_byte hcaa.hcaa_return_rows hcaa.return_columns hcaa.hcaa_return_cells hcaa.prices_refused hcaa.rows_made hcaa.columns_made hcaa.cells_made hcaa.hcaa_covariance_by hcaa.hcaa_covariance hcaa.metric_of hcaa.used_metric hcaa.unnamed hcaa.is_mean hcaa.is_exponential hcaa.expected_of hcaa.used_expected hcaa.cluster_count hcaa.used_rule hcaa.name_lines hcaa.matrix_rules hcaa.sharpe_lines hcaa.hcaa_table hcaa.hcaa_outcome hcaa.used_inputs metric_named is_sharpe is_tail_risk metric_tail_lines nearest.no_part tail.gain tail.row_return tail.tail_sum tail.tail_count tail.mean tail.shortfall tail.wealth tail.higher tail.peak tail.fall tail.drawdown tail.conditional_drawdown tail.shortfall_of tail.drawdown_of ordered.has_minus ordered.before ordered.insert ordered.insert_all ordered.sorted nearest.whole_of nearest.place nearest.quantile hierarchy.hcaa_rows hierarchy.hcaa_order hierarchy.hcaa_shares hierarchy.room_lines hierarchy.share_lines allot.down_shares allot.allotted allot.inside_of allot.varied_of allot.equal_of allot.spread_of allot.deal_to sharing.split_of sharing.scored sharing.by_risk sharing.split_by sharing.bounded in_range every millionths_table millionths_outcome millionths_in millionths_laid hrp.prices_alone hrp.hrp_return_rows hrp.hrp_return_cells hrp.hrp_covariance_by hrp.hrp_covariance hrp.hrp_shape_lines hrp.number_lines hrp.hrp_table hrp.hrp_outcome absent rows_of_shape other_columns other_size matrix_lines parity.correlations_of parity.hrp_distances parity.tree_distances distances_in tree_rows tree_order parity.hrp_rows parity.hrp_order parity.hrp_shares parity.parity_room_lines parity.hrp_risk_lines bisection.factor_of bisection.sides_factor bisection.halved bisection.bisected bisection.normal bisection.bisection_shares too_big misfits over_limit other_length sizes laid first tab grid sum_to sum_on sum_rows any_to range span is_none weights_in recip recip_sum shares term variance_of outside any_low_of risk_table size_table shares_outcome variance_outcome variance_answer correlation_cell any_low clamped distance_of distance_cell off_diagonal square between between_cell min_of max_of abs_of clamp_of finite_of count_of one_over root isqrt lt le eq is_nan neg add sum sub mul div of_int round units odd count_trailing_zeros size ieee-span climb of_fields of_bits to_bits whole_part left_over whole_at left_at sooner rank_of whole_total missing millionths_at out_of_reach millionths_lines upto ceilings.kept_at ceilings.gap_at ceilings.cut_total ceilings.left_for ceilings.capped_at ceilings.capped_in ceilings.too_low figures_in figures_lines
figures = refl
