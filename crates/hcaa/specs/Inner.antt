-- What the private functions ask of one another and promise: may be skipped. Definitions only.
use Rattle.std.specs.Prelude.{ℕ, ◌*◌, ◌≤◌, ◌≡◌, Bool, true, false, cond, List, [], ◌++◌, take, Float, Some, Ok, None, Err}
use Rattle.refusal.specs.Table.{Line, first, or_else, and_then, Outcome}
use Rattle.refusal.specs.declared.Refusal.TheVariants.{NoData}
use Rattle.lent.specs.Grid.{tab}
use Rattle.lent.specs.Lent.{sizes, answer_of, Answer, Shape}
use Rattle.inputs.specs.Inputs.{absent, matrix_lines}
use Rattle.linkage.specs.declared.Distance.{Distance}
use Rattle.linkage.specs.declared.Linkage.{Linkage}
use Rattle.stats.specs.Expected.{mean_return, exponential_return}
use Rattle.metrics.specs.declared.Metric.{Metric}
use Rattle.sharing.specs.Down.{is_sharpe}
use Rattle.hierarchy.specs.Hierarchy.{Room, room_lines}
use Rattle.hcaa.specs.declared.Wanted.{Wanted}
use Rattle.hcaa.specs.declared.Wanted.TheVariants.{Nothing, Given, Mean, Exponential, Unknown}
use Rattle.hcaa.specs.Hcaa.{HcaaJob, is_mean, is_exponential, hcaa_return_rows, return_columns, hcaa_return_cells, prices_refused, names_judged, rows_judged, sharpe_judged}
use Rattle.hcaa.specs.Outcomes.{Clusters}
use Rattle.metrics.specs.Outcomes.{NamedMetric}

-- ---- which expected returns are read: under a metric, whether they are given, the method's name

unfoldable pub wanted_by : Metric → Bool → List ℕ → Wanted
unfolding is_mean is_exponential
wanted_by m given method = cond (is_sharpe m) (cond given Given (cond (is_mean method) Mean (cond (is_exponential method) Exponential Unknown))) Nothing

-- ---- what the sizes, the shapes and the metric's name alone refuse

unfoldable pub hcaa_judge_table : ℕ → Shape → ℕ → Shape → ℕ → Shape → ℕ → NamedMetric → Room → List Line
unfolding names_judged
hcaa_judge_table n p pl r rl c cl read room = matrix_lines n p pl r rl c cl ++ (room_lines n room ++ names_judged n p r c read)

-- ---- the returns

-- the price rules, after what was said before
unfoldable pub source_outcome : Outcome → List Float → ℕ → Shape → Shape → Outcome
unfolding prices_refused
source_outcome said p step rs ps = and_then said (or_else (prices_refused p step rs ps) NoData (Ok tt))

-- the sizes of a matrix that may be absent
unfoldable pub sizes_of : Shape → ℕ → List Line
sizes_of None len = []
sizes_of (Some s) len = sizes len s.rows s.columns

-- the slices of prices and returns fit their shapes, unless something was refused
pub record Sources (said : Outcome) (pl : ℕ) (ps : Shape) (rl : ℕ) (rs : Shape) : Type 0 where
  pub prices : said ≡ Ok tt → first (sizes_of ps pl) ≡ Ok tt
  pub returns : said ≡ Ok tt → first (sizes_of rs rl) ≡ Ok tt

-- how many rows and columns there are, and their cells at the front of out
pub record Gathered (said : Outcome) (p : List Float) (ps : Shape) (xs : List Float) (rs : Shape) (step : ℕ) (r : Answer) (out : List Float) : Type 0 where
  pub answer : r ≡ answer_of (source_outcome said p step rs ps) (hcaa_return_rows step rs ps) (return_columns rs ps)
  pub cells : source_outcome said p step rs ps ≡ Ok tt → take (hcaa_return_rows step rs ps * return_columns rs ps) out ≡ hcaa_return_cells p xs step rs ps

unfoldable pub height_of : Answer → ℕ
height_of (Ok s) = s.rows
height_of (Err r) = 0

-- ---- a call that has its returns, or the refusal of these: what is refused then

unfoldable pub rest_outcome : Answer → ℕ → Shape → ℕ → Metric → Bool → List ℕ → Outcome
unfolding rows_judged sharpe_judged
rest_outcome (Ok s) n cs len m given method = and_then (first (rows_judged n s.rows s.columns cs)) (first (sharpe_judged m given method len n s.rows))
rest_outcome (Err r) n cs len m given method = Err r

-- its covariance may be given, in a slice of so many cells, or made
pub record Coverable (cs : Shape) (len h n : ℕ) : Type 0 where
  pub enough : absent cs ≡ true → 2 ≤ h
  pub cells : absent cs ≡ false → len ≡ n * n

-- ---- its expected returns

-- those given are one for each asset
pub record Hopeful (len : ℕ) (wanted : Wanted) (n : ℕ) : Type 0 where
  pub whole : wanted ≡ Given → len ≡ n

unfoldable pub hopes_of : Wanted → ℕ → ℕ
hopes_of Nothing n = 0
hopes_of Given n = n
hopes_of Mean n = n
hopes_of Exponential n = n
hopes_of Unknown n = 0

unfoldable pub hoped_for : List Float → List Float → ℕ → ℕ → Wanted → List Float
hoped_for e xs h n Nothing = []
hoped_for e xs h n Given = e
hoped_for e xs h n Mean = tab n (mean_return xs h n)
hoped_for e xs h n Exponential = tab n (exponential_return xs h n)
hoped_for e xs h n Unknown = []

-- a job by its parts
abbrev pub hcaa_job : ℕ → List Float → Shape → List Float → Shape → List Float → Shape
    → List Float → Bool → List ℕ → List ℕ → Float → Clusters → List ℕ → Distance → Linkage → HcaaJob
hcaa_job n p ps r rs c cs e eg m me q k by d l = record {
  assets = n;
  prices = p;
  prices_shape = ps;
  returns = r;
  returns_shape = rs;
  covariance = c;
  covariance_shape = cs;
  expected = e;
  expected_given = eg;
  metric = m;
  method = me;
  confidence = q;
  clusters = k;
  resample_by = by;
  distance = d;
  linkage = l;
}
