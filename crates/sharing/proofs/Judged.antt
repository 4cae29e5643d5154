-- The refusals of `allocate_down_tree`, and what an accepted call says. Assumes nothing.
--     down_accepted      the sizes, the tree and the counts are right, there are weights, and as many as assets
--     down_as_shares     where the sizes, the tree and the counts are right, only the recursion can refuse
use Prim.Native.Nat.{ℕ, zero, suc, ◌-◌, ◌*◌, ◌<◌, ◌≤◌}
use mathlib.Core.Path.{◌≡◌, refl, sym, ap, subst, ◌∙◌}
use mathlib.Core.Bool.{Bool, true, false, not, ◌&&◌, ◌||◌}
use mathlib.Core.List.{List, [], ◌∷◌, ◌++◌}
use native.Mathlib.Nat.{le_refl}
use native.Mathlib.Omega.{arith}
use borrow.Author.Tests.{ltb-false, lt-ltb, le-ltb, eq-eqb, ne_eqb, eqb-true, eqb-false, not-false}
use lib.Dec.{ltb, eqb}
use lib.ListN.{length, set, take, drop, get_or-replicate, length-set, length-replicate, length-append, length-drop}
use lib.Seq.{length-take-le, ext_get_or, get_or-take}
use lib.Ieee.{Float, binary64, mul, sub}
use Rattle.arithmetic.specs.Constants.{pz, unit}
use Rattle.refusal.specs.Table.{Line, first, or_else, Outcome}
use Rattle.refusal.specs.declared.Refusal.{Refusal}
use Rattle.refusal.specs.declared.Refusal.TheVariants.{NoData, DimensionMismatch, MissingExpectedReturnsForSharpe, InvalidNumClusters, NoTree, MissingReturnsForTailRisk, ConfidenceOutOfRange}
use Rattle.refusal.proofs.Tables.{table, table_hit, table_pass, table_end, AllNo, none, first_append, first_done, first_refused, both_done}
use Rattle.lent.specs.Grid.{zeros}
use Rattle.lent.specs.Lent.{least_scratch, over_limit, other_length, laid, answer_of, size}
use Rattle.lent.proofs.Laws.{square_in, drop_replicate}
use Rattle.lent.proofs.Sizes.{over_cells, same_length, laid_refused}
use Rattle.ordering.specs.Nearest.{no_part}
use Rattle.tree.specs.Rows.{is_tree}
use Rattle.tree.specs.Tree.{Tree, leaf, fork, tree_at, leaves}
use Rattle.clusters.specs.Shares.{Shares, some, is_none, weights_in}
use Rattle.std.specs.Result.{is_err}
use Rattle.clusters.specs.Shares as shares
use Rattle.clusters.specs.Clusters.{shares_outcome}
use Rattle.clusters.specs.Clusters as inverse
use Rattle.metrics.specs.declared.Metric.{Metric}
use Rattle.metrics.specs.declared.Metric.TheVariants.{MinimumVariance, MinimumStandardDeviation, SharpeRatio, EqualWeighting, ExpectedShortfall, ConditionalDrawdownRisk}
use Rattle.metrics.specs.declared.Split.{Split}
use Rattle.metrics.specs.Split.{Inputs, split_of}
use Rattle.sharing.specs.Allot.{splits, spread_of, equal_of, deal_to, if_done, varied_of, inside_of, onward, allotted, allotted_at, down_shares}
use Rattle.sharing.specs.Down.{is_sharpe, is_tail_risk, other_rows, metric_tail_lines, DownCall, down_size_lines, DownRules, down_rule_lines, down_sizes, down_rules, down_given, down_table, down_outcome, down_answer, down_weights}
use Rattle.sharing.specs.Inner.{Below, Summarized, Blank, Down}
use Rattle.metrics.specs.Inner.{Tailed}
use Rattle.std.specs.Prelude.{Ok, Err}
use Rattle.metrics.specs.Outcomes.{Splitting}

-- ---- sharing keeps the number of weights

spread_length : (ms : List ℕ) (w : Float) (ws : List Float) → length (spread_of ms w ws) ≡ length ws
unfolding spread_of
spread_length [] w ws = refl
spread_length (a ∷ ms) w ws = spread_length ms w (set ws a w) ∙ simp length-set

deal_length : (k : ℕ) (ms : List ℕ) (ps : List Float) (w : Float) (ws : List Float) → length (deal_to k ms ps w ws) ≡ length ws
unfolding deal_to
deal_length zero ms ps w ws = refl
deal_length (suc k) ms ps w ws = simp length-set (deal_length k ms ps w ws)

abbrev Keeps : Shares → ℕ → Type 0
Keeps shares.none m = Unit
Keeps (some ws) m = length ws ≡ m

if_keeps : (o : Outcome) (ws : List Float) (m : ℕ) → length ws ≡ m → Keeps (if_done o ws) m
if_keeps (Ok _) ws m e = e
if_keeps (Err r) ws m e = tt

onward_keeps : (s : Splitting) (f : Split → Shares) (m : ℕ) → ((x : Split) → Keeps (f x) m) → Keeps (onward s f) m
onward_keeps (Err r) f m h = tt
onward_keeps (Ok x) f m h = h x

then_keeps : (s : Shares) (f : List Float → Shares) (m : ℕ) → Keeps s m → ((mid : List Float) → length mid ≡ m → Keeps (f mid) m) → Keeps (shares.with_shares s f) m
then_keeps shares.none f m p h = tt
then_keeps (some ws) f m p h = h ws p

varied_keeps : (cov : List Float) (n : ℕ) (ms : List ℕ) (w : Float) (ws : List Float) → Keeps (varied_of cov n ms w ws) (length ws)
unfolding varied_of
varied_keeps cov n ms w ws =
    if_keeps (shares_outcome cov n n ms (length ms)) (deal_to (length ms) ms (inverse.shares cov n ms) w ws) (length ws) (deal_length (length ms) ms (inverse.shares cov n ms) w ws)

inside_keeps : (metric : Metric) (cov : List Float) (n : ℕ) (ms : List ℕ) (w : Float) (ws : List Float) → Keeps (inside_of metric cov n ms w ws) (length ws)
unfolding inside_of equal_of
inside_keeps MinimumVariance cov n ms w ws = varied_keeps cov n ms w ws
inside_keeps MinimumStandardDeviation cov n ms w ws = varied_keeps cov n ms w ws
inside_keeps SharpeRatio cov n ms w ws = varied_keeps cov n ms w ws
inside_keeps EqualWeighting cov n ms w ws = spread_length ms _ ws
inside_keeps ExpectedShortfall cov n ms w ws = varied_keeps cov n ms w ws
inside_keeps ConditionalDrawdownRisk cov n ms w ws = varied_keeps cov n ms w ws

module _ (metric : Metric) (x : Inputs) (cov : List Float) (n k : ℕ) where
  allot_keeps : (t : Tree) (b : Bool) (w : Float) (ws : List Float) (m : ℕ) → length ws ≡ m → Keeps (allotted metric x cov n k t b w ws) m
  unfolding allotted
  allot_keeps (leaf a) b w ws m e = simp length-set e
  allot_keeps (fork r l t) true w ws m e =
      onward_keeps (split_of metric x cov n (leaves l) (leaves t)) _ m
      (λ s. then_keeps (allotted metric x cov n k l (splits n k l) (mul binary64 w s.factor) ws) _ m
      (allot_keeps l (splits n k l) (mul binary64 w s.factor) ws m e)
      (λ mid q. allot_keeps t (splits n k t) (mul binary64 w (sub binary64 unit s.factor)) mid m q))
  allot_keeps (fork r l t) false w ws m e = subst (λ (i : ℕ). Keeps (inside_of metric cov n (leaves (fork r l t)) w ws) i) e (inside_keeps metric cov n (leaves (fork r l t)) w ws)

kept_of : (s : Shares) (m : ℕ) → Keeps s m → is_none s ≡ false → (s ≡ some (weights_in s)) × (length (weights_in s) ≡ m)
unfolding is_none weights_in
kept_of shares.none m p e = absurd (let z : ◌≡◌ {A = ℕ} 0 1 = cc in omega arith)
kept_of (some ws) m p e = (refl, p)

shares_keeps : (metric : Metric) (x : Inputs) (cov : List Float) (rows : List ℕ) (n k : ℕ) → Keeps (down_shares metric x cov rows n k) n
unfolding down_shares
shares_keeps metric x cov rows n k =
    allot_keeps metric x cov n k (tree_at rows n (2 * n - 2)) (splits n k (tree_at rows n (2 * n - 2))) unit (zeros n) n (length-replicate n pz)

pub shares_length : (metric : Metric) (x : Inputs) (cov : List Float) (rows : List ℕ) (n k : ℕ) → is_none (down_shares metric x cov rows n k) ≡ false
    → (down_shares metric x cov rows n k ≡ some (weights_in (down_shares metric x cov rows n k))) × (length (weights_in (down_shares metric x cov rows n k)) ≡ n)
shares_length metric x cov rows n k e = kept_of (down_shares metric x cov rows n k) n (shares_keeps metric x cov rows n k) e

-- ---- what a call of `share` told

told_none : (o : Outcome) (part : List Float) (s : Shares) → if_done o part ≡ s → is_err o ≡ true → is_none s ≡ true
unfolding is_none
told_none (Ok _) part s p d = absurd (let z : ◌≡◌ {A = ℕ} 0 1 = cc in omega arith)
told_none (Err r) part s p d = rw (← p)

told_some : (o : Outcome) (part : List Float) (s : Shares) → if_done o part ≡ s → is_err o ≡ false → (is_none s ≡ false) × (weights_in s ≡ part)
unfolding is_none weights_in
told_some (Ok _) part s p d = (rw (← p), rw (← p))
told_some (Err r) part s p d = absurd (let z : ◌≡◌ {A = ℕ} 0 1 = cc in omega arith)

laid_front : (n room : ℕ) (part blank : List Float) → blank ≡ zeros room → length part ≡ n → part ++ drop n blank ≡ laid pz (Ok tt) room part
unfolding laid
laid_front n room part blank b l = rw (b, drop_replicate, l)

-- ---- the tests

-- what a tail-risk metric asks of w columns of returns, and of the confidence
pub record Feeding (x : Inputs) (w n : ℕ) : Type 0 where
  pub rows : 0 < x.return_rows
  pub columns : w ≡ n
  pub part : no_part x.confidence ≡ false

-- what the call's lines find right
pub record Right (q : DownCall) (room scratch : ℕ) : Type 0 where
  pub some : 1 ≤ q.assets
  pub most : q.assets ≤ 64
  pub height : q.covariance_rows ≡ q.assets
  pub width : q.covariance_columns ≡ q.assets
  pub cells : length q.covariance ≡ q.assets * q.assets
  pub fits : q.assets ≤ room
  pub tree : is_tree q.rows q.assets ≡ true
  pub least : 1 ≤ q.clusters
  pub cut : q.clusters ≤ q.assets
  pub expects : is_sharpe q.metric ≡ true → (q.expected_given ≡ true) × (length q.inputs.expected ≡ q.assets)
  pub enough : least_scratch ≤ scratch
  pub limits : over_limit q.inputs.return_rows q.return_columns ≡ false
  pub returns : length q.inputs.returns ≡ q.inputs.return_rows * q.return_columns
  pub feeds : is_tail_risk q.metric ≡ true → Feeding q.inputs q.return_columns q.assets

pub neither : (a b : Bool) → (a || b) ≡ false → (a ≡ false) × (b ≡ false)
neither true b e = absurd (let z : ◌≡◌ {A = ℕ} 0 1 = cc in omega arith)
neither false b e = (refl, e)

same_number : (m n : ℕ) → not (eqb m n) ≡ false → m ≡ n
same_number m n e = eqb-true m n (not-false (eqb m n) e)

pub expecting : (b g : Bool) (len n : ℕ) → (b && (g && not (eqb len n))) ≡ false → (b && not g) ≡ false → b ≡ true → (g ≡ true) × (len ≡ n)
expecting false g len n p q h = absurd (let z : ◌≡◌ {A = ℕ} 0 1 = cc in omega arith)
expecting true false len n p q h = absurd (let z : ◌≡◌ {A = ℕ} 0 1 = cc in omega arith)
expecting true true len n p q h = (refl, same_number len n p)

expected_right : (b g : Bool) (len n : ℕ) → (b ≡ true → (g ≡ true) × (len ≡ n)) → ((b && (g && not (eqb len n))) ≡ false) × ((b && not g) ≡ false)
expected_right false g len n h = (refl, refl)
expected_right true g len n h = (rw ((h refl).0, eq-eqb len n (h refl).1), rw (h refl).0)

-- the same for rows of returns, and a confidence, under a tail-risk metric
feeding_of : (b : Bool) (x : Inputs) (w n : ℕ) → (b && (ltb 0 x.return_rows && not (eqb w n))) ≡ false → (b && eqb x.return_rows 0) ≡ false → (b && no_part x.confidence) ≡ false → b ≡ true → Feeding x w n
feeding_of false x w n a c d h = absurd (let z : ◌≡◌ {A = ℕ} 0 1 = cc in omega arith)
feeding_of true x w n a c d h =
    let some_of : x.return_rows ≡ 0 → ⊥ = eqb-false x.return_rows 0 c in
    let more : 0 < x.return_rows = omega arith in
    record { rows = more; columns = same_number w n (rw (lt-ltb 0 x.return_rows more) at a); part = d }

pub feeding : (m : Metric) (x : Inputs) (w n : ℕ) → other_rows m x.return_rows w n ≡ false → (is_tail_risk m && eqb x.return_rows 0) ≡ false → (is_tail_risk m && no_part x.confidence) ≡ false → is_tail_risk m ≡ true → Feeding x w n
unfolding other_rows
feeding m x w n a c d h = feeding_of (is_tail_risk m) x w n a c d h

fed_right : (b : Bool) (x : Inputs) (w n : ℕ) → (b ≡ true → Feeding x w n)
    → ((b && (ltb 0 x.return_rows && not (eqb w n))) ≡ false) × ((b && eqb x.return_rows 0) ≡ false) × ((b && no_part x.confidence) ≡ false)
fed_right false x w n h = (refl, refl, refl)
fed_right true x w n h =
    let f = h refl in
    let more : 0 < x.return_rows = f.rows in
    (rw (lt-ltb 0 x.return_rows more, eq-eqb w n f.columns), ne_eqb x.return_rows 0 (λ e. omega arith), f.part)

all_no : (l : List Line) → AllNo l → first l ≡ Ok tt
unfolding first
all_no [] p = refl
all_no ((t, r) ∷ l) p = table_pass t r l p.0 ∙ all_no l p.1

module _ (q : DownCall) (room scratch : ℕ) where
  pub call_right : first (down_given q room scratch) ≡ Ok tt → Right q room scratch
  unfolding down_given down_size_lines down_rule_lines other_rows metric_tail_lines
  call_right e =
      let a = none (down_given q room scratch) e in
      let s = neither _ _ a.1.1.1.1.1.1.1.0 in
      let k = neither _ _ a.1.1.1.1.1.1.1.1.1.1.1.1.1.1.1.0 in
      let h = same_number q.covariance_rows q.assets s.0 in
      let w = same_number q.covariance_columns q.assets s.1 in
      let some_of : q.assets ≡ 0 → ⊥ = eqb-false q.assets 0 a.1.1.1.1.1.1.1.1.1.1.0 in
      let least-of : q.clusters ≡ 0 → ⊥ = eqb-false q.clusters 0 k.0 in
      record {
        some = omega arith;
        most = ltb-false 64 q.assets a.0;
        height = h;
        width = w;
        cells = same_length (length q.covariance) q.covariance_rows q.covariance_columns a.1.1.1.0 ∙ ap (λ (i : ℕ). i * q.covariance_columns) h ∙ ap (λ (j : ℕ). q.assets * j) w;
        fits = ltb-false room q.assets a.1.1.1.1.1.0;
        tree = not-false (is_tree q.rows q.assets) a.1.1.1.1.1.1.1.1.1.1.1.0;
        least = omega arith;
        cut = ltb-false q.assets q.clusters k.1;
        expects = expecting (is_sharpe q.metric) q.expected_given (length q.inputs.expected) q.assets a.1.1.1.1.1.1.1.1.0 a.1.1.1.1.1.1.1.1.1.1.1.1.0;
        enough = ltb-false scratch 8192 a.1.1.1.1.1.1.0;
        limits = a.1.1.0;
        returns = same_length (length q.inputs.returns) q.inputs.return_rows q.return_columns a.1.1.1.1.0;
        feeds = feeding q.metric q.inputs q.return_columns q.assets a.1.1.1.1.1.1.1.1.1.0 a.1.1.1.1.1.1.1.1.1.1.1.1.1.0 a.1.1.1.1.1.1.1.1.1.1.1.1.1.1.0;
      }

  module _ (p : Right q room scratch) where
    small : over_limit q.covariance_rows q.covariance_columns ≡ false
    small =
        let s = square_in q.assets p.most in
        let z : q.covariance_rows * q.covariance_columns ≤ 4096 = rw (p.height, p.width) s in
        over_cells q.covariance_rows q.covariance_columns (omega (arith, p.most, p.height)) (omega (arith, p.most, p.width)) ∙ le-ltb 4096 (q.covariance_rows * q.covariance_columns) z

    whole : other_length (length q.covariance) q.covariance_rows q.covariance_columns ≡ false
    unfolding other_length
    whole =
        let z : length q.covariance ≡ q.covariance_rows * q.covariance_columns = rw (p.height, p.width) p.cells in
        rw (eq-eqb (length q.covariance) (q.covariance_rows * q.covariance_columns) z)

    whole_returns : other_length (length q.inputs.returns) q.inputs.return_rows q.return_columns ≡ false
    unfolding other_length
    whole_returns = rw (eq-eqb (length q.inputs.returns) (q.inputs.return_rows * q.return_columns) p.returns)

    pub right_passes : first (down_given q room scratch) ≡ Ok tt
    unfolding down_given down_size_lines down_rule_lines other_rows metric_tail_lines
    right_passes =
        let x = expected_right (is_sharpe q.metric) q.expected_given (length q.inputs.expected) q.assets p.expects in
        let f = fed_right (is_tail_risk q.metric) q.inputs q.return_columns q.assets p.feeds in
        let one : 1 ≤ q.assets = p.some in
        let two : 1 ≤ q.clusters = p.least in
        all_no (down_given q room scratch) (le-ltb 64 q.assets p.most, (small, (p.limits, (whole, (whole_returns, (le-ltb room q.assets p.fits, (le-ltb scratch 8192 p.enough, (rw (eq-eqb q.covariance_rows q.assets p.height, eq-eqb q.covariance_columns q.assets p.width), (x.0, (f.0, (ne_eqb q.assets 0 (λ e. omega arith), (rw p.tree, (x.1, (f.1, (f.2, (rw (ne_eqb q.clusters 0 (λ e. omega arith), le-ltb q.assets q.clusters p.cut), tt))))))))))))))))

    -- what the two measures ask
    pub right_tailed : is_tail_risk q.metric ≡ true → Tailed q.inputs.returns q.inputs.return_rows q.inputs.confidence q.assets
    right_tailed h =
        let f = p.feeds h in
        record {
          rows = f.rows;
          limits = subst (λ (i : ℕ). over_limit q.inputs.return_rows i ≡ false) f.columns p.limits;
          cells = p.returns ∙ ap (λ (i : ℕ). q.inputs.return_rows * i) f.columns;
          part = f.part;
        }

  -- ---- the recursion's own line, and the answer

  abbrev given : Shares
  given = down_shares q.metric q.inputs q.covariance q.rows q.assets q.clusters

  pub down_as_shares : Right q room scratch → down_outcome q room scratch ≡ first ((is_none (down_shares q.metric q.inputs q.covariance q.rows q.assets q.clusters), NoData) ∷ [])
  unfolding down_outcome down_table
  down_as_shares p = first_done (down_given q room scratch) ((is_none given, NoData) ∷ []) (right_passes p)

  pub record Accepted : Type 0 where
    pub right : Right q room scratch
    pub weights : down_shares q.metric q.inputs q.covariance q.rows q.assets q.clusters ≡ some (weights_in (down_shares q.metric q.inputs q.covariance q.rows q.assets q.clusters))
    pub size : length (weights_in (down_shares q.metric q.inputs q.covariance q.rows q.assets q.clusters)) ≡ q.assets

  pub down_accepted : down_outcome q room scratch ≡ Ok tt → Accepted
  unfolding down_outcome down_table
  down_accepted e =
      let d = both_done (first (down_given q room scratch)) (first ((is_none given, NoData) ∷ [])) (sym (first_append (down_given q room scratch) ((is_none given, NoData) ∷ [])) ∙ e) in
      let l = shares_length q.metric q.inputs q.covariance q.rows q.assets q.clusters (none ((is_none given, NoData) ∷ []) d.1).0 in
      record { right = call_right d.0; weights = l.0; size = l.1 }

  answered_as : (o : Outcome) (out : List Float) → down_outcome q room scratch ≡ o → out ≡ laid pz o room (weights_in given) → (answer_of o 1 q.assets ≡ down_answer q room scratch) × (out ≡ down_weights q room scratch)
  unfolding down_answer down_weights
  answered_as o out d z = (rw d, rw d z)

  -- before anything was shared out
  pub down_refused : (r : Refusal) (out : List Float) → Err r ≡ first (down_given q room scratch) → out ≡ zeros room → (Err r ≡ down_answer q room scratch) × (out ≡ down_weights q room scratch)
  unfolding down_outcome down_table answer_of
  down_refused r out e z =
      answered_as (Err r) out (first_refused (down_given q room scratch) ((is_none given, NoData) ∷ []) r (sym e)) (z ∙ laid_refused pz (Err r) r room (weights_in given) refl)

  module _ (p : Right q room scratch) where
    -- sharing refused, and the buffer was cleared
    pub down_none : (o : Outcome) (part out : List Float) (len : ℕ) → if_done o part ≡ down_shares q.metric q.inputs q.covariance q.rows q.assets q.clusters → is_err o ≡ true → out ≡ zeros len → len ≡ room
        → (Err NoData ≡ down_answer q room scratch) × (out ≡ down_weights q room scratch)
    unfolding answer_of
    down_none o part out len g f z l =
        answered_as (Err NoData) out (down_as_shares p ∙ table_hit _ _ _ (told_none o part given g f)) (z ∙ ap zeros l ∙ laid_refused pz (Err NoData) NoData room (weights_in given) refl)

    -- weights in the front of a cleared buffer
    pub down_some : (o : Outcome) (part blank out : List Float) → if_done o part ≡ down_shares q.metric q.inputs q.covariance q.rows q.assets q.clusters → is_err o ≡ false
        → blank ≡ zeros room → out ≡ part ++ drop q.assets blank → length part ≡ q.assets → (Ok (size 1 q.assets) ≡ down_answer q room scratch) × (out ≡ down_weights q room scratch)
    unfolding answer_of
    down_some o part blank out g f b w l =
        let t = told_some o part given g f in
        answered_as (Ok tt) out (down_as_shares p ∙ table_pass _ _ _ t.0 ∙ table_end)
        (w ∙ laid_front q.assets room part blank b l ∙ ap (laid pz (Ok tt) room) (sym t.1))

-- ---- what `share` is lent: the summary of the tree, and the front of a cleared buffer

take_zeros : (n m : ℕ) → n ≤ m → take n (zeros m) ≡ zeros n
take_zeros n m h =
    let z = length-replicate m pz in
    let e = length-take-le n (zeros m) (omega arith) in
    ext_get_or pz (take n (zeros m)) (zeros n) (e ∙ sym (length-replicate n pz))
    (λ i l. let lt : i < n = omega arith in rw (get_or-take n (zeros m) i pz lt) (get_or-replicate m i pz pz (omega arith) ∙ sym (get_or-replicate n i pz pz lt)))

pub front_zeros : (blank : List Float) (n room : ℕ) → blank ≡ zeros room → n ≤ room → take n blank ≡ zeros n
front_zeros blank n room e h = rw e (take_zeros n room h)

pub root : (q : DownCall) (room scratch : ℕ) → Right q room scratch → Below q.rows q.assets (2 * q.assets - 2)
root q room scratch p = record { on = record { some = p.some; tree = p.tree; node = le_refl (2 * q.assets - 2) }; most = p.most }

module _ (q : DownCall) (room scratch : ℕ) (p : Right q room scratch) (blank : List Float) (e : blank ≡ zeros room) where
  blank_length : length blank ≡ room
  blank_length = ap length e ∙ length-replicate room pz

  pub front_fits : q.assets ≤ length blank
  front_fits = omega (arith, blank_length, p.fits)

  pub front_length : length (take q.assets blank) ≡ q.assets
  front_length = length-take-le q.assets blank front_fits

  pub down_start : {order firsts sizes : List ℕ} → Summarized q.rows q.assets order firsts sizes
      → Down q.metric q.inputs q.rows q.assets q.clusters (2 * q.assets - 2) order firsts sizes (take q.assets blank)
  unfolding is_sharpe
  down_start s = record {
    node = root q room scratch p;
    summary = s;
    cut = p.cut;
    each = omega (arith, front_length);
    fed = record { expects = λ h. (p.expects (ap is_sharpe h)).1; tailed = right_tailed q room scratch p };
  }

  pub down_shared : (s : Shares) → s ≡ allotted_at q.metric q.inputs q.covariance q.rows q.assets q.clusters (2 * q.assets - 2) unit (take q.assets blank)
      → s ≡ down_shares q.metric q.inputs q.covariance q.rows q.assets q.clusters
  unfolding down_shares
  down_shared s h = h ∙ ap (allotted_at q.metric q.inputs q.covariance q.rows q.assets q.clusters (2 * q.assets - 2) unit) (front_zeros blank q.assets room e p.fits)

  pub part_length : (part : List Float) → length part ≡ length (take q.assets blank) → length part ≡ q.assets
  part_length part h = h ∙ front_length

  pub whole_length : (part : List Float) → length part ≡ length (take q.assets blank) → length (part ++ drop q.assets blank) ≡ room
  whole_length part h = simp (length-append, length-drop) (omega (arith, part_length part h, blank_length, p.fits))

-- and scratch that was cleared
pub cleared_blank : {after : List Float} (m : ℕ) → least_scratch ≤ m → after ≡ zeros m → Blank after
cleared_blank {after = after} m h e =
    let l : length after ≡ m = ap length e ∙ length-replicate m pz in
    record { enough = omega arith; zero = e ∙ ap zeros (sym l) }

-- ---- the two judges

module _ (q : DownCall) (room scratch : ℕ) (sizes : Outcome) (s : sizes ≡ first (down_size_lines (down_sizes q room scratch))) where
  -- the sizes are refused
  pub sizes_refused : (r : Refusal) → sizes ≡ Err r → Err r ≡ first (down_given q room scratch)
  unfolding down_given
  sizes_refused r h = sym (first_refused (down_size_lines (down_sizes q room scratch)) (down_rule_lines (down_rules q)) r (sym s ∙ h))

  -- they are not: the rules judge
  pub rules_judge : (rules : Outcome) → sizes ≡ Ok tt → rules ≡ first (down_rule_lines (down_rules q)) → rules ≡ first (down_given q room scratch)
  unfolding down_given
  rules_judge rules h r = r ∙ sym (first_done (down_size_lines (down_sizes q room scratch)) (down_rule_lines (down_rules q)) (sym s ∙ h))

-- the same where the lines are said one by one, from the last to the first
pub rules_said : (r : DownRules) (sharpe tail missing wrong unexpected present other-rows no_rows off unpart no-count tree : Bool) (o1 o2 o3 o4 o5 o6 o7 o8 : Outcome)
    → sharpe ≡ is_sharpe r.metric
    → tail ≡ is_tail_risk r.metric
    → missing ≡ (sharpe && not r.expected_given)
    → wrong ≡ (r.expected_given && not (eqb r.expected_length r.assets))
    → unexpected ≡ (sharpe && wrong)
    → present ≡ (ltb 0 r.return_rows && not (eqb r.return_columns r.assets))
    → other-rows ≡ (tail && present)
    → no_rows ≡ (tail && eqb r.return_rows 0)
    → off ≡ no_part r.confidence
    → unpart ≡ (tail && off)
    → no-count ≡ (eqb r.clusters 0 || ltb r.assets r.clusters)
    → tree ≡ is_tree r.rows r.assets
    → o1 ≡ or_else no-count (InvalidNumClusters r.clusters r.assets) (Ok tt)
    → o2 ≡ or_else unpart ConfidenceOutOfRange o1
    → o3 ≡ or_else no_rows MissingReturnsForTailRisk o2
    → o4 ≡ or_else missing MissingExpectedReturnsForSharpe o3
    → o5 ≡ or_else (not tree) NoTree o4
    → o6 ≡ or_else (eqb r.assets 0) NoData o5
    → o7 ≡ or_else other-rows DimensionMismatch o6
    → o8 ≡ or_else unexpected DimensionMismatch o7
    → o8 ≡ first (down_rule_lines r)
unfolding down_rule_lines other_rows metric_tail_lines
rules_said r sharpe tail missing wrong unexpected present other-rows no_rows off unpart no-count tree o1 o2 o3 o4 o5 o6 o7 o8 p1 p2 p3 p4 p5 p6 p7 p8 p9 p10 p11 p12 l1 l2 l3 l4 l5 l6 l7 l8 =
    simp (table, table_end) (rw (l8, l7, l6, l5, l4, l3, l2, l1, p12, p11, p10, p9, p8, p7, p6, p5, p4, p3, p2, p1))
