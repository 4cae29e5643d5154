-- What a call that its judges let pass knows, and how a call ends: with what is promised of it. Assumes nothing.
use Prim.Native.Nat.{ℕ, zero, suc, ◌*◌, ◌≤◌}
use mathlib.Core.Path.{◌≡◌, refl, sym, ap, ◌∙◌}
use mathlib.Core.Bool.{Bool, true, false, not, ◌&&◌, ◌||◌, cond, and-false}
use mathlib.Core.List.{List, [], ◌∷◌, ◌++◌, append_assoc}
use native.Mathlib.Nat.{zero-mul}
use native.Mathlib.Omega.{arith}
use borrow.Author.Tests.{ltb-false, lt-ltb, eqb-true, eq-eqb, not-false}
use lib.Dec.{ltb, eqb}
use lib.ListN.{length, take}
use lib.Ieee.{Float}
use mir.Syntax.{w64}
use mir.Val.{Fits as Word}
use Rattle.refusal.specs.Table.{Line, first, or_else, and_then, Outcome}
use Rattle.refusal.specs.declared.Refusal.{Refusal}
use Rattle.refusal.specs.declared.Refusal.TheVariants.{NoData, DimensionMismatch, MissingExpectedReturnsForSharpe, UnknownReturns, OverLimit, SliceLength}
use Rattle.refusal.proofs.Tables.{none, table, table_pass, table_end, first_append, first_done, then_done, then_refused, both_done, parts_done, done_refused}
use Rattle.lent.specs.Grid.{tab}
use Rattle.lent.specs.Lent.{sizes, answer_of, Answer, Shape, size}
use Rattle.lent.proofs.Laws.{square_in, length_grid, length_tab}
use Rattle.lent.proofs.Sizes.{Sized, sized_done}
use Rattle.resample.specs.Resample.{step_of}
use Rattle.inputs.specs.Inputs.{absent, other_size, matrix_lines}
use Rattle.inputs.proofs.Laws.{Fits, Matrices, matrices_done, sizes_pass, made_judged, made_done}
use Rattle.stats.specs.Expected.{mean_return, exponential_return}
use Rattle.linkage.specs.declared.Distance.{Distance}
use Rattle.linkage.specs.declared.Linkage.{Linkage}
use Rattle.metrics.specs.declared.Metric.{Metric}
use Rattle.sharing.specs.Names.{metric_named}
use Rattle.sharing.specs.Down.{is_sharpe, is_tail_risk, other_rows}
use Rattle.hierarchy.specs.Hierarchy.{HierarchyCall, Room, room_lines, hierarchy_size_lines, hierarchy_shape_lines, expected_lines, rule_lines, hierarchy_judge_table, hcaa_risk_lines, share_lines, hierarchy_table, hierarchy_outcome, HierarchyAnswered, Cleared, square_lines}
use Rattle.hierarchy.proofs.Answers.{laid_cleared}
use Rattle.hcaa.specs.declared.Wanted.{Wanted}
use Rattle.hcaa.specs.declared.Wanted.TheVariants.{Nothing, Given, Mean, Exponential, Unknown}
use Rattle.hcaa.specs.Hcaa.{HcaaJob, hcaa_return_rows, return_columns, hcaa_return_cells, prices_refused, rows_made, columns_made, cells_made, hcaa_covariance_by, hcaa_covariance, metric_of, used_metric, is_mean, is_exponential, expected_of, used_expected, cluster_count, used_inputs, used_rule, names_judged, name_lines, rows_judged, matrix_rules, sharpe_judged, sharpe_lines, hcaa_table, hcaa_outcome, HcaaAllocated}
use Rattle.hcaa.specs.Inner.{hcaa_job, wanted_by, hcaa_judge_table, sizes_of, source_outcome, Sources, Gathered, height_of, rest_outcome, Coverable, Hopeful, hopes_of, hoped_for}
use Rattle.hcaa.proofs.Stages.{want_judged, want_lines}
use Rattle.hcaa.proofs.Equal.{allocated}
use Rattle.std.specs.Prelude.{Some, Ok, None, Err}
use Rattle.hcaa.specs.Outcomes.{Clusters}
use Rattle.metrics.specs.Outcomes.{NamedMetric}

-- ---- the first judge

sizes_of_lem : (s : Shape) (len : ℕ) → Fits s len → first (sizes_of s len) ≡ Ok tt
unfolding sizes_of
sizes_of_lem None len f = table_end
sizes_of_lem (Some s) len f = sizes_pass len s.rows s.columns f

module _ (n : ℕ) (ps : Shape) (pl : ℕ) (rs : Shape) (rl : ℕ) (cs : Shape) (cl : ℕ) (read : NamedMetric) (room : Room) (said : Outcome) (e : said ≡ first (hcaa_judge_table n ps pl rs rl cs cl read room)) where
  record Started : Type 0 where
    matrices : Matrices n ps pl rs rl cs cl
    some : eqb n 0 ≡ false
    roomy : first (room_lines n room) ≡ Ok tt

  starts : said ≡ Ok tt → Started
  unfolding hcaa_judge_table names_judged
  starts d =
      let a = parts_done (matrix_lines n ps pl rs rl cs cl) _ (sym e ∙ d) in
      let b = parts_done (room_lines n room) _ a.1 in
      record { matrices = matrices_done n ps pl rs rl cs cl a.0; some = (none (names_judged n ps rs cs read) b.1).1.1.0; roomy = b.0 }

  pub sources : Sources said pl ps rl rs
  sources = record { prices = λ d. sizes_of_lem ps pl (starts d).matrices.prices; returns = λ d. sizes_of_lem rs rl (starts d).matrices.returns }

-- ---- the returns

-- its rows are of n columns, or none
same_cells : (h w n : ℕ) → (ltb 0 h && not (eqb w n)) ≡ false → h * w ≡ h * n
same_cells zero w n t = zero-mul w ∙ sym (zero-mul n)
same_cells (suc h) w n t =
    let q : not (eqb w n) ≡ false = rw (lt-ltb 0 (suc h) (omega arith)) at t in
    ap (λ (v : ℕ). suc h * v) (eqb-true w n (not-false _ q))

sized_assets : (len h w n : ℕ) → Sized len h w → n ≤ 64 → h * w ≡ h * n → first (sizes len h n) ≡ Ok tt
sized_assets len h w n z few q = sizes_pass len h n record { tall = z.tall; wide = few; small = rw (← q) z.small; cells = z.cells ∙ q }

source_sized : (p : List Float) (ps : Shape) (xs : List Float) (rs : Shape) (s : ℕ) → Fits ps (length p) → Fits rs (length xs) → or_else (prices_refused p s rs ps) NoData (Ok tt) ≡ Ok tt
    → Sized (length (hcaa_return_cells p xs s rs ps)) (hcaa_return_rows s rs ps) (return_columns rs ps)
unfolding prices_refused hcaa_return_cells hcaa_return_rows return_columns
source_sized p ps xs (Some z) s f g o = g
source_sized p (Some z) xs None s f g o = (made_done p z.rows z.columns s 4096 (made_judged p z.rows z.columns s 4096 f (omega arith) ∙ o)).sized
source_sized p None xs None s f g o = record { tall = omega arith; wide = omega arith; small = omega arith; cells = refl }

-- ---- the covariance that is given

size_is : (rows w n : ℕ) → other_size (Some (size rows w)) n ≡ false → (rows ≡ n) × (w ≡ n)
unfolding other_size
size_is rows w n e = go (eqb rows n) (eqb w n) (eqb-true rows n) (eqb-true w n) e
  where
    go : (a b : Bool) → (a ≡ true → rows ≡ n) → (b ≡ true → w ≡ n) → (not a || not b) ≡ false → (rows ≡ n) × (w ≡ n)
    go true true f g e = (f refl, g refl)
    go true false f g e = absurd (let z : ◌≡◌ {A = ℕ} 0 1 = cc in omega arith)
    go false b f g e = absurd (let z : ◌≡◌ {A = ℕ} 0 1 = cc in omega arith)

given_cells : (n : ℕ) (s : Shape) (len : ℕ) → Fits s len → other_size s n ≡ false → absent s ≡ false → len ≡ n * n
unfolding absent
given_cells n None len f o t = absurd (let z : ◌≡◌ {A = ℕ} 0 1 = cc in omega arith)
given_cells n (Some s) len f o t = let q = size_is s.rows s.columns n o in rw (q.0, q.1) at f.cells

-- ---- both judges, with the returns between them

rest_of : (o : Outcome) (h w n : ℕ) (cs : Shape) (el : ℕ) (m : Metric) (given : Bool) (method : List ℕ)
    → rest_outcome (answer_of o h w) n cs el m given method ≡ and_then o (and_then (first (rows_judged n h w cs)) (first (sharpe_judged m given method el n h)))
unfolding rest_outcome answer_of and_then
rest_of (Ok _) h w n cs el m given method = refl
rest_of (Err r) h w n cs el m given method = refl

given_judged : (m : Metric) (given : Bool) (method : List ℕ) (n h el : ℕ) → first (sharpe_judged m given method el n h) ≡ Ok tt → wanted_by m given method ≡ Given → el ≡ n
unfolding want_judged or_else
given_judged m given method n h el e t = go (eqb el n) (eqb-true el n) (rw t at (sym (want_lines m given method el n h) ∙ e))
  where
    go : (b : Bool) → (b ≡ true → el ≡ n) → or_else (not b) DimensionMismatch (Ok tt) ≡ Ok tt → el ≡ n
    go true f q = f refl
    go false f q = absurd (done_refused DimensionMismatch (sym q))

-- what the second judge says, however its expected returns came to be wanted
abbrev Rest : Outcome → Answer → ℕ → Shape → ℕ → Wanted → Type 0
Rest said got n cs el wanted = (m : Metric) (given : Bool) (method : List ℕ) → wanted ≡ wanted_by m given method → said ≡ rest_outcome got n cs el m given method

-- what a call that passes them knows: n assets, their h rows of returns xs, the given covariance and expected returns
pub record Ready (n : ℕ) (xs : List Float) (h : ℕ) (cs : Shape) (cl el : ℕ) (m : Metric) (given : Bool) (method : List ℕ) (room : Room) : Type 0 where
  pub few : n ≤ 64
  pub some : eqb n 0 ≡ false
  pub roomy : first (room_lines n room) ≡ Ok tt
  pub sized : first (sizes (length xs) h n) ≡ Ok tt
  pub coverable : Coverable cs cl h n
  pub judged : first (sharpe_judged m given method el n h) ≡ Ok tt

module _ (n : ℕ) (p : List Float) (ps : Shape) (xs : List Float) (rs : Shape) (cs : Shape) (cl : ℕ) (read : NamedMetric) (room : Room) (s el : ℕ) (m : Metric) (given : Bool) (method : List ℕ) (wanted : Wanted)
    (before : Outcome) (got : Answer) (said : Outcome) (made : List Float) (t : wanted ≡ wanted_by m given method)
    (a : before ≡ first (hcaa_judge_table n ps (length p) rs (length xs) cs cl read room)) (b : Gathered before p ps xs rs s got made) (f : Rest said got n cs el wanted) where
  abbrev rules : List Line
  rules = rows_judged n (hcaa_return_rows s rs ps) (return_columns rs ps) cs

  abbrev expects : Outcome
  expects = first (sharpe_judged m given method el n (hcaa_return_rows s rs ps))

  said_is : said ≡ and_then (source_outcome before p s rs ps) (and_then (first rules) expects)
  said_is = f m given method t ∙ ap (λ (x : Answer). rest_outcome x n cs el m given method) b.answer ∙ rest_of (source_outcome before p s rs ps) _ _ n cs el m given method

  module _ (d : said ≡ Ok tt) where
    parts : (source_outcome before p s rs ps ≡ Ok tt) × (and_then (first rules) expects ≡ Ok tt)
    parts = both_done _ _ (sym said_is ∙ d)

    earlier : (before ≡ Ok tt) × (or_else (prices_refused p s rs ps) NoData (Ok tt) ≡ Ok tt)
    unfolding source_outcome
    earlier = both_done before _ parts.0

    rules_pass : ((ltb 0 (hcaa_return_rows s rs ps) && not (eqb (return_columns rs ps) n)) ≡ false) × ((absent cs && ltb (hcaa_return_rows s rs ps) 2) ≡ false) × (other_size cs n ≡ false)
    unfolding rows_judged
    rules_pass = let t = none rules (both_done _ _ parts.1).0 in (t.0, t.1.0, t.1.1.0)

    begun : Started n ps (length p) rs (length xs) cs cl read room before a
    begun = starts n ps (length p) rs (length xs) cs cl read room before a earlier.0

    columns_right : hcaa_return_rows s rs ps * return_columns rs ps ≡ hcaa_return_rows s rs ps * n
    columns_right = same_cells _ _ n rules_pass.0

    height_is : height_of got ≡ hcaa_return_rows s rs ps
    unfolding answer_of height_of
    height_is = rw (b.answer, parts.0)

    held_is : take (hcaa_return_rows s rs ps * n) made ≡ hcaa_return_cells p xs s rs ps
    held_is = rw (← columns_right) (b.cells parts.0)

    passed : Ready n (hcaa_return_cells p xs s rs ps) (hcaa_return_rows s rs ps) cs cl el m given method room
    passed = record {
      few = begun.matrices.few;
      some = begun.some;
      roomy = begun.roomy;
      sized = sized_assets _ _ _ n (source_sized p ps xs rs s begun.matrices.prices begun.matrices.returns earlier.1) begun.matrices.few columns_right;
      coverable = record { enough = λ t. ltb-false _ 2 (rw t at rules_pass.1); cells = given_cells n cs cl begun.matrices.covariance rules_pass.2 };
      judged = (both_done _ _ parts.1).1;
    }

    -- of the front of the array that the returns were gathered into
    pub ready : (height : ℕ) → height ≡ height_of got → Ready n (take (height * n) made) height cs cl el m given method room
    ready height q = rw (q ∙ height_is, held_is) passed

-- ---- sizes of what is made

module _ {n : ℕ} {xs : List Float} {h : ℕ} {cs : Shape} {cl el : ℕ} {m : Metric} {given : Bool} {method : List ℕ} {room : Room} (z : Ready n xs h cs cl el m given method room) where
  pub cells_in : h * n ≤ 4096
  cells_in = (sized_done (length xs) h n z.sized).small

  pub area_in : n * n ≤ 4096
  area_in = square_in n z.few

  pub hopeful : (wanted : Wanted) → wanted ≡ wanted_by m given method → Hopeful el wanted n
  hopeful wanted t = record { whole = λ e. given_judged m given method n h el z.judged (sym t ∙ e) }

  pub hopes_in : (wanted : Wanted) (r : ℕ) → r ≡ hopes_of wanted n → r ≤ 64
  unfolding hopes_of
  hopes_in wanted r e = rw e (go wanted)
    where
      go : (w : Wanted) → hopes_of w n ≤ 64
      go Nothing = omega arith
      go Given = z.few
      go Mean = z.few
      go Exponential = z.few
      go Unknown = omega arith

-- a part of an array of m entries
pub part_in : (k m len : ℕ) → len ≡ m → k ≤ m → k ≤ len
part_in k m len e h = omega arith

pub part_word : (k len : ℕ) → len ≡ 4096 → k ≤ len → Word w64 k
part_word k len e h = omega arith

-- ---- the expected returns that are used

-- an unknown method is refused
unknown_judged : {A : Type 0} (n h len : ℕ) → want_judged n h len Unknown ≡ Ok tt → A
unfolding want_judged or_else
unknown_judged {A} n h len e = go (eqb h 0) e
  where
    go : (b : Bool) → or_else b MissingExpectedReturnsForSharpe (Err UnknownReturns) ≡ Ok tt → A
    go true q = absurd (done_refused _ (sym q))
    go false q = absurd (done_refused _ (sym q))

expected_is : (j : HcaaJob) → first (sharpe_judged (used_metric j) j.expected_given j.method (length j.expected) j.assets (rows_made j)) ≡ Ok tt
    → hoped_for j.expected (cells_made j) (rows_made j) j.assets (wanted_by (used_metric j) j.expected_given j.method) ≡ used_expected j
unfolding used_expected expected_of hoped_for wanted_by
expected_is j e = go (is_sharpe (used_metric j)) j.expected_given (sym (want_lines (used_metric j) j.expected_given j.method (length j.expected) j.assets (rows_made j)) ∙ e)
  where
    estimated : (a b : Bool) → want_judged j.assets (rows_made j) (length j.expected) (cond a Mean (cond b Exponential Unknown)) ≡ Ok tt
        → hoped_for j.expected (cells_made j) (rows_made j) j.assets (cond a Mean (cond b Exponential Unknown))
        ≡ cond a (tab j.assets (mean_return (cells_made j) (rows_made j) j.assets)) (tab j.assets (exponential_return (cells_made j) (rows_made j) j.assets))
    estimated true b e = refl
    estimated false true e = refl
    estimated false false e = unknown_judged j.assets (rows_made j) (length j.expected) e

    go : (s g : Bool) → want_judged j.assets (rows_made j) (length j.expected) (cond s (cond g Given (cond (is_mean j.method) Mean (cond (is_exponential j.method) Exponential Unknown))) Nothing) ≡ Ok tt
        → hoped_for j.expected (cells_made j) (rows_made j) j.assets (cond s (cond g Given (cond (is_mean j.method) Mean (cond (is_exponential j.method) Exponential Unknown))) Nothing)
        ≡ cond s (expected_of j g) []
    go false g e = refl
    go true true e = refl
    go true false e = estimated (is_mean j.method) (is_exponential j.method) e

-- the stages, joined
in_stages : (x : Outcome) (t : Bool) (k : Refusal) (u v z : Outcome) → and_then x (or_else t k (and_then u (and_then v z))) ≡ and_then (and_then (and_then x (or_else t k (Ok tt))) (and_then u v)) z
unfolding and_then or_else
in_stages (Ok _) true k u v z = refl
in_stages (Ok _) false k (Ok _) v z = refl
in_stages (Ok _) false k (Err r) v z = refl
in_stages (Err r) t k u v z = refl

no_both : (a b : Bool) → (a && (b && false)) ≡ false
no_both true true = refl
no_both true false = refl
no_both false b = refl

-- what hierarchy is asked: its expected returns are always there, and its rows of returns have as many columns as there are assets
abbrev asked : HcaaJob → HierarchyCall
asked j = record { rule = used_rule j; expected_given = true; return_columns = j.assets }

module _ (j : HcaaJob) (room : Room) (before : Outcome) (got : Answer) (said : Outcome) (made : List Float)
    (a : before ≡ first (hcaa_judge_table j.assets j.prices_shape (length j.prices) j.returns_shape (length j.returns) j.covariance_shape (length j.covariance) (metric_named j.metric) room))
    (b : Gathered before j.prices j.prices_shape j.returns j.returns_shape (step_of j.resample_by) got made)
    (f : Rest said got j.assets j.covariance_shape (length j.expected) (wanted_by (used_metric j) j.expected_given j.method)) where
  abbrev judged : List Line
  judged = hcaa_judge_table j.assets j.prices_shape (length j.prices) j.returns_shape (length j.returns) j.covariance_shape (length j.covariance) (metric_named j.metric) room

  abbrev ruled : List Line
  ruled = rows_judged j.assets (rows_made j) (columns_made j) j.covariance_shape

  abbrev shares : List Line
  shares = share_lines (used_rule j) j.distance j.linkage (hcaa_covariance j) j.assets

  table_is : hcaa_table j room ≡ judged ++ ((prices_refused j.prices (step_of j.resample_by) j.returns_shape j.prices_shape, NoData) ∷ ruled ++ (sharpe_lines j ++ shares))
  unfolding hcaa_table hcaa_judge_table names_judged name_lines matrix_rules rows_judged
  table_is = simp append_assoc

  -- what both judges said, then the lines of the crate hierarchy
  outcome_is : hcaa_outcome j room ≡ and_then said (first shares)
  unfolding hcaa_outcome rows_made columns_made sharpe_lines source_outcome
  outcome_is =
      ap first table_is
      ∙ first_append judged _
      ∙ ap (and_then (first judged))
      (table _ NoData _
      ∙ ap (or_else (prices_refused j.prices (step_of j.resample_by) j.returns_shape j.prices_shape) NoData)
      (first_append ruled _ ∙ ap (and_then (first ruled)) (first_append (sharpe_lines j) shares)))
      ∙ in_stages (first judged) _ NoData (first ruled) _ (first shares)
      ∙ ap (λ (o : Outcome). and_then o (first shares)) (sym (said_is _ _ _ _ _ _ _ _ _ _ _ _ _ _ _ before got said made refl a b f ∙ rw a))

  module _ (rows order : List ℕ) (weights scratch : List Float) where
    ends_refused : (k : Refusal) → said ≡ Err k → Cleared room rows order weights scratch → HcaaAllocated j room said rows order weights scratch
    ends_refused k h z =
        let r : hcaa_outcome j room ≡ Err k = outcome_is ∙ then_refused said _ k h in
        allocated j room said rows order weights scratch (h ∙ sym r) (laid_cleared _ k (used_rule j) j.distance j.linkage (hcaa_covariance j) j.assets room rows order weights scratch r z)

  module _ (d : said ≡ Ok tt) where
    abbrev n : ℕ
    n = j.assets

    fit : Ready n (cells_made j) (rows_made j) j.covariance_shape (length j.covariance) (length j.expected) (used_metric j) j.expected_given j.method room
    unfolding cells_made rows_made
    fit = passed _ _ _ _ _ _ _ _ _ _ _ _ _ _ _ before got said made refl a b f d

    length_covariance : length (hcaa_covariance j) ≡ n * n
    unfolding hcaa_covariance hcaa_covariance_by absent
    length_covariance = go j.covariance_shape fit.coverable.cells
      where
        go : (s : Shape) → (absent s ≡ false → length j.covariance ≡ n * n) → length (hcaa_covariance_by j.covariance (cells_made j) (rows_made j) n s) ≡ n * n
        go (Some s) e = e refl
        go None e = length_grid n n _

    length_expected : (is_sharpe (used_metric j) && (true && not (eqb (length (used_expected j)) n))) ≡ false
    unfolding used_expected expected_of wanted_by
    length_expected = go (is_sharpe (used_metric j)) j.expected_given (given_judged (used_metric j) j.expected_given j.method n (rows_made j) (length j.expected) fit.judged)
      where
        either : (c : Bool) (x y : List Float) → length x ≡ n → length y ≡ n → length (cond c x y) ≡ n
        either true x y p q = p
        either false x y p q = q

        go : (s g : Bool) → (cond s (cond g Given (cond (is_mean j.method) Mean (cond (is_exponential j.method) Exponential Unknown))) Nothing ≡ Given → length j.expected ≡ n)
            → (s && (true && not (eqb (length (cond s (expected_of j g) [])) n))) ≡ false
        go false g t = refl
        go true true t = rw (eq-eqb _ _ (t refl))
        go true false t = rw (either (is_mean j.method) _ _ (length_tab n _) (length_tab n _), eq-eqb n n refl)

    -- neither the sizes of its matrices, nor their shapes, nor its expected returns are refused again
    sizes_right : first (hierarchy_size_lines (asked j) (length (hcaa_covariance j)) n n) ≡ Ok tt
    unfolding hierarchy_size_lines sizes used_rule used_inputs
    sizes_right =
        let z : Sized (length (hcaa_covariance j)) n n = record { tall = omega (arith, fit.few); wide = fit.few; small = square_in n fit.few; cells = length_covariance } in
        let t = none (sizes (length (cells_made j)) (rows_made j) n) fit.sized in
        table_pass _ OverLimit _ t.0 ∙ first_done (sizes (length (hcaa_covariance j)) n n) _ (sizes_pass (length (hcaa_covariance j)) n n z) ∙ table_pass _ SliceLength _ t.1.0 ∙ table_end

    shapes_right : first (hierarchy_shape_lines (asked j) n n) ≡ Ok tt
    unfolding hierarchy_shape_lines other_rows used_rule used_inputs square_lines
    shapes_right =
        table_pass _ NoData _ fit.some
        ∙ table_pass _ DimensionMismatch _ (rw (eq-eqb n n refl))
        ∙ table_pass _ DimensionMismatch _ (rw (eq-eqb n n refl) (no_both (is_tail_risk (used_metric j)) (ltb 0 (rows_made j))))
        ∙ table_end

    expects_right : first (expected_lines (asked j) n) ≡ Ok tt
    unfolding expected_lines used_rule used_inputs
    expects_right = table_pass _ DimensionMismatch _ length_expected ∙ table_pass _ MissingExpectedReturnsForSharpe _ (and-false (is_sharpe (used_metric j))) ∙ table_end

    shared_is : hierarchy_outcome (asked j) j.distance j.linkage (hcaa_covariance j) n n room ≡ hcaa_outcome j room
    unfolding hierarchy_outcome hierarchy_table hierarchy_judge_table share_lines
    shared_is =
        first_append (hierarchy_judge_table (asked j) (length (hcaa_covariance j)) n n room) (hcaa_risk_lines (used_rule j) j.distance j.linkage (hcaa_covariance j) n)
        ∙ ap (λ (o : Outcome). and_then o (first (hcaa_risk_lines (used_rule j) j.distance j.linkage (hcaa_covariance j) n)))
        (first_done (hierarchy_size_lines (asked j) (length (hcaa_covariance j)) n n) _ sizes_right
        ∙ first_done (room_lines n room) _ fit.roomy
        ∙ first_done (hierarchy_shape_lines (asked j) n n) _ shapes_right
        ∙ first_done (expected_lines (asked j) n) _ expects_right)
        ∙ sym (first_append (rule_lines (used_rule j) n) (hcaa_risk_lines (used_rule j) j.distance j.linkage (hcaa_covariance j) n))
        ∙ sym (outcome_is ∙ then_done said _ d)

    -- on what was gathered
    module _ (height count : ℕ) (cov ys : List Float) (u : height ≡ height_of got) (v : count ≡ cluster_count j.clusters n)
        (g : cov ≡ hcaa_covariance_by j.covariance (take (height * n) made) height n j.covariance_shape)
        (h : ys ≡ hoped_for j.expected (take (height * n) made) height n (wanted_by (used_metric j) j.expected_given j.method)) where
      height_made : height ≡ rows_made j
      unfolding rows_made
      height_made = u ∙ height_is _ _ _ _ _ _ _ _ _ _ _ _ _ _ _ before got said made refl a b f d

      held_made : take (height * n) made ≡ cells_made j
      unfolding rows_made cells_made
      held_made = ap (λ (k : ℕ). take (k * n) made) height_made ∙ held_is _ _ _ _ _ _ _ _ _ _ _ _ _ _ _ before got said made refl a b f d

      cov_made : cov ≡ hcaa_covariance j
      unfolding hcaa_covariance
      cov_made = g ∙ rw (held_made, height_made)

      ys_made : ys ≡ used_expected j
      ys_made = h ∙ rw (held_made, height_made) (expected_is j fit.judged)

      abbrev called : HierarchyCall
      called = record {
        rule = record { metric = used_metric j; inputs = record { expected = ys; returns = take (height * n) made; return_rows = height; confidence = j.confidence }; clusters = count };
        expected_given = true;
        return_columns = n;
      }

      called_is : called ≡ asked j
      unfolding used_rule used_inputs
      called_is = rw (ys_made, held_made, height_made, v)

      ends_done : (r : Outcome) (rows order : List ℕ) (weights scratch : List Float) → HierarchyAnswered called j.distance j.linkage cov n n room r rows order weights scratch
          → HcaaAllocated j room r rows order weights scratch
      ends_done r rows order weights scratch z =
          let y : HierarchyAnswered (asked j) j.distance j.linkage (hcaa_covariance j) n n room r rows order weights scratch = rw (called_is, cov_made) at z in
          allocated j room r rows order weights scratch (y.answer ∙ shared_is) (rw (← shared_is) y.buffers)

-- ---- how a call ends

module _ (n : ℕ) (p : List Float) (ps : Shape) (xs : List Float) (rs : Shape) (c : List Float) (cs : Shape) (e : List Float) (given : Bool) (m method : List ℕ) (conf : Float) (k : Clusters) (by : List ℕ) (d : Distance) (l : Linkage)
    (room : Room) (read : NamedMetric) (used : Metric) (wanted : Wanted) (s : ℕ) (before : Outcome) (got : Answer) (said : Outcome) (made : List Float)
    (r₀ : read ≡ metric_named m) (r₁ : used ≡ metric_of read) (r₂ : wanted ≡ wanted_by used given method) (r₃ : s ≡ step_of by)
    (a : before ≡ first (hcaa_judge_table n ps (length p) rs (length xs) cs (length c) read room)) (b : Gathered before p ps xs rs s got made) (f : Rest said got n cs (length e) wanted)
    (rows order : List ℕ) (weights scratch : List Float) where
  abbrev call : HcaaJob
  call = hcaa_job n p ps xs rs c cs e given m method conf k by d l

  used_is : used ≡ used_metric call
  unfolding used_metric
  used_is = r₁ ∙ ap metric_of r₀

  a' : before ≡ first (hcaa_judge_table n ps (length p) rs (length xs) cs (length c) (metric_named m) room)
  a' = rw r₀ at a

  b' : Gathered before p ps xs rs (step_of by) got made
  b' = rw r₃ at b

  wanted_is : wanted ≡ wanted_by (used_metric call) given method
  wanted_is = r₂ ∙ ap (λ (x : Metric). wanted_by x given method) used_is

  f' : Rest said got n cs (length e) (wanted_by (used_metric call) given method)
  f' = rw wanted_is at f

  pub ended_refused : (x : Refusal) → said ≡ Err x → Cleared room rows order weights scratch → HcaaAllocated (hcaa_job n p ps xs rs c cs e given m method conf k by d l) room said rows order weights scratch
  ended_refused x h z = ends_refused call room before got said made a' b' f' rows order weights scratch x h z

  pub ended_done : (r : Outcome) (height count : ℕ) (cov ys : List Float) → said ≡ Ok tt → height ≡ height_of got → count ≡ cluster_count k n
      → cov ≡ hcaa_covariance_by c (take (height * n) made) height n cs → ys ≡ hoped_for e (take (height * n) made) height n wanted
      → HierarchyAnswered
      (record {
        rule = record { metric = used; inputs = record { expected = ys; returns = take (height * n) made; return_rows = height; confidence = conf }; clusters = count };
        expected_given = true;
        return_columns = n;
      })
      d l cov n n room r rows order weights scratch
      → HcaaAllocated (hcaa_job n p ps xs rs c cs e given m method conf k by d l) room r rows order weights scratch
  ended_done r height count cov ys t u v g h z =
      let h' : ys ≡ hoped_for e (take (height * n) made) height n (wanted_by (used_metric call) given method) = rw wanted_is at h in
      ends_done call room before got said made a' b' f' t height count cov ys u v g h' r rows order weights scratch (rw used_is at z)
