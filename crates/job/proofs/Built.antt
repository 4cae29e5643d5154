-- What the allocator's call for a text builds, where it is not refused: a tree, its leaf order, a weight for each asset. Assumes nothing.
use Prim.Native.Nat.{ℕ, ◌*◌, ◌-◌, ◌≤◌, ◌<◌}
use mathlib.Core.Path.{◌≡◌, refl, sym, ap, ◌∙◌, subst}
use mathlib.Core.Bool.{true, false}
use mathlib.Core.List.{List}
use native.Mathlib.Omega.{arith}
use borrow.Author.Tests.{ltb-false, eqb-false}
use lib.Dec.{eqb}
use lib.ListN.{length}
use lib.Ieee.{Float}
use Rattle.arithmetic.specs.Constants.{pz}
use Rattle.refusal.proofs.Tables.{none, parts_done}
use Rattle.lent.specs.Grid.{zeros}
use Rattle.lent.specs.Lent.{laid}
use Rattle.inputs.specs.Inputs.{matrix_lines}
use Rattle.inputs.proofs.Laws.{laid_front}
use Rattle.tree.specs.Rows.{is_tree, is_order}
use Rattle.tree.specs.Tree.{leaves_of}
use Rattle.tree.proofs.Order.{order_is}
use Rattle.linkage.specs.Merge.{merge_rows}
use Rattle.linkage.proofs.Rows.{rows_tree, rows_length}
use Rattle.linkage.specs.declared.Distance.{Distance}
use Rattle.linkage.specs.declared.Linkage.{Linkage}
use Rattle.linkage.specs.declared.Linkage.TheVariants.{Single}
use Rattle.clusters.specs.Shares.{Shares, is_none, weights_in}
use Rattle.clusters.specs.Shares as shares
use Rattle.bisection.proofs.Halves.{weights_length}
use Rattle.distances.specs.declared.Measure.TheVariants as measure
use Rattle.arranging.specs.Arranging.{correlations_of, distances_in, tree_rows, tree_order}
use Rattle.sharing.proofs.Judged.{shares_length}
use Rattle.parity.specs.Parity as parity
use Rattle.hrp.specs.Hrp as hrp
use Rattle.hierarchy.specs.Hierarchy as hierarchy
use Rattle.hcaa.specs.Hcaa as hcaa
use Rattle.hcaa.proofs.Equal.{allocated}
use Rattle.equal.specs.Equal.{EqualShares}
use Rattle.metrics.specs.declared.Metric.TheVariants.{EqualWeighting}
use Rattle.reading.specs.Reading.{assets, block_in, job_in}
use Rattle.reading.specs.declared.Block.{Block}
use Rattle.reading.proofs.Accepted.{job_hrp, job_hcaa}
use Rattle.job.specs.Job.{hrp_job_in, clusters_in, hcaa_job_in, room_of_hrp, room_of_hcaa, allocator_says, job_weights, job_order, job_rows}
use Rattle.std.specs.Prelude.{Ok, Err}
use Rattle.reading.specs.Outcomes.{Reading}
use Rattle.reading.specs.declared.Job.TheVariants as jobs

pub record Built (text : List ℕ) (job : Reading) : Type 0 where
  pub some : 0 < assets text
  pub tree : is_tree (job_rows text job) (assets text) ≡ true
  pub each_once : is_order (job_order text job) (assets text) ≡ true
  pub weighed : length (job_weights text job) ≡ assets text

-- by rows that were merged, and their leaves
module _ (text : List ℕ) (job : Reading) (few : assets text ≤ 64) (some : eqb (assets text) 0 ≡ false) (l : Linkage) (xs : List Float) where
  above : 0 < assets text
  above = let z = eqb-false (assets text) 0 some in omega arith

  abbrev merged : List ℕ
  merged = merge_rows l (assets text) xs

  tree : is_tree merged (assets text) ≡ true
  tree = rows_tree l (assets text) xs above few

  grown : job_rows text job ≡ merged → job_order text job ≡ leaves_of merged (assets text) (2 * assets text - 2) → length (job_weights text job) ≡ assets text → Built text job
  grown r o w = record { some = above; tree = rw r tree; each_once = rw o (order_is merged (assets text) tree above); weighed = w }

some_of : (s : Shares) → is_none s ≡ false → s ≡ shares.some (weights_in s)
unfolding is_none weights_in
some_of shares.none e = absurd (let z : ◌≡◌ {A = ℕ} 0 1 = cc in omega arith)
some_of (shares.some ws) e = refl

-- ---- HRP's

module _ (text : List ℕ) (d : Distance) where
  module _ (b : Block) where
    pub hrp_says : allocator_says text (Ok (jobs.Hrp b d)) ≡ hrp.hrp_outcome (hrp_job_in text d) room_of_hrp
    unfolding allocator_says
    hrp_says = refl

    pub hrp_weights : job_weights text (Ok (jobs.Hrp b d)) ≡ weights_in (parity.hrp_shares d (hrp.hrp_covariance (hrp_job_in text d)) b.assets)
    unfolding job_weights
    hrp_weights = refl

    pub hrp_rows_lem : job_rows text (Ok (jobs.Hrp b d)) ≡ parity.hrp_rows d (hrp.hrp_covariance (hrp_job_in text d)) b.assets
    unfolding job_rows
    hrp_rows_lem = refl

    pub hrp_order_lem : job_order text (Ok (jobs.Hrp b d)) ≡ parity.hrp_order d (hrp.hrp_covariance (hrp_job_in text d)) b.assets
    unfolding job_order
    hrp_order_lem = refl

module _ (n : ℕ) (cov : List Float) (d : Distance) where
  abbrev hrp_distances_lem : List Float
  hrp_distances_lem = parity.tree_distances d (parity.hrp_distances cov n) n

  hrp_merged : parity.hrp_rows d cov n ≡ merge_rows Single n hrp_distances_lem
  unfolding parity.hrp_rows parity.hrp_distances tree_rows
  hrp_merged = refl

  hrp_leaves : parity.hrp_order d cov n ≡ leaves_of (merge_rows Single n hrp_distances_lem) n (2 * n - 2)
  unfolding parity.hrp_order parity.hrp_distances tree_order tree_rows
  hrp_leaves = refl

  hrp_length : is_none (parity.hrp_shares d cov n) ≡ false → length (weights_in (parity.hrp_shares d cov n)) ≡ n
  unfolding parity.hrp_shares
  hrp_length e = weights_length cov n (parity.hrp_order d cov n) _ (some_of (parity.hrp_shares d cov n) e)

-- what a call that is not refused knows
record Hrp-done (j : hrp.HrpJob) : Type 0 where
  few : j.assets ≤ 64
  some : eqb j.assets 0 ≡ false
  shared : is_none (parity.hrp_shares j.distance (hrp.hrp_covariance j) j.assets) ≡ false

hrp_done : (j : hrp.HrpJob) → hrp.hrp_outcome j room_of_hrp ≡ Ok tt → Hrp-done j
unfolding hrp.hrp_outcome hrp.hrp_table hrp.hrp_shape_lines hrp.number_lines parity.hrp_risk_lines matrix_lines
hrp_done j e =
    let sizes = matrix_lines j.assets j.prices_shape (length j.prices) j.returns_shape (length j.returns) j.covariance_shape (length j.covariance) in
    let a = parts_done sizes _ e in
    let b = parts_done (parity.parity_room_lines j.assets room_of_hrp) _ a.1 in
    let s = parts_done (hrp.hrp_shape_lines j) _ b.1 in
    record { few = ltb-false 64 j.assets (none sizes a.0).0; some = (none _ s.0).1.0; shared = (none _ s.1).1.1.1.1.0 }

hrp_built : (text : List ℕ) (d : Distance) → hrp.hrp_outcome (hrp_job_in text d) room_of_hrp ≡ Ok tt → Built text (Ok (jobs.Hrp (block_in text) d))
unfolding hrp_job_in block_in
hrp_built text d e =
    let n = assets text in
    let b = block_in text in
    let cov = hrp.hrp_covariance (hrp_job_in text d) in
    let g = hrp_done (hrp_job_in text d) e in
    grown text (Ok (jobs.Hrp b d)) g.few g.some Single (hrp_distances_lem n cov d)
    (hrp_rows_lem text d b ∙ hrp_merged n cov d) (hrp_order_lem text d b ∙ hrp_leaves n cov d) (ap length (hrp_weights text d b) ∙ hrp_length n cov d g.shared)

-- ---- HCAA's

module _ (text : List ℕ) (l : Linkage) (d : Distance) where
  module _ (b : Block) where
    pub hcaa_says : allocator_says text (Ok (jobs.Hcaa b l d)) ≡ hcaa.hcaa_outcome (hcaa_job_in text l d) room_of_hcaa
    unfolding allocator_says
    hcaa_says = refl

    pub hcaa_weights : job_weights text (Ok (jobs.Hcaa b l d)) ≡ weights_in (hierarchy.hcaa_shares (hcaa.used_rule (hcaa_job_in text l d)) d l (hcaa.hcaa_covariance (hcaa_job_in text l d)) b.assets)
    unfolding job_weights
    hcaa_weights = refl

    pub hcaa_rows_lem : job_rows text (Ok (jobs.Hcaa b l d)) ≡ hierarchy.hcaa_rows d l (hcaa.hcaa_covariance (hcaa_job_in text l d)) b.assets
    unfolding job_rows
    hcaa_rows_lem = refl

    pub hcaa_order_lem : job_order text (Ok (jobs.Hcaa b l d)) ≡ hierarchy.hcaa_order d l (hcaa.hcaa_covariance (hcaa_job_in text l d)) b.assets
    unfolding job_order
    hcaa_order_lem = refl

module _ (n : ℕ) (cov : List Float) (l : Linkage) (d : Distance) where
  abbrev hcaa_distances : List Float
  hcaa_distances = parity.tree_distances d (distances_in measure.Hcaa (correlations_of cov n) n) n

  hcaa_merged : hierarchy.hcaa_rows d l cov n ≡ merge_rows l n hcaa_distances
  unfolding hierarchy.hcaa_rows tree_rows
  hcaa_merged = refl

  hcaa_leaves : hierarchy.hcaa_order d l cov n ≡ leaves_of (merge_rows l n hcaa_distances) n (2 * n - 2)
  unfolding hierarchy.hcaa_order tree_order tree_rows
  hcaa_leaves = refl

  hcaa_length : (r : hierarchy.Rule) → is_none (hierarchy.hcaa_shares r d l cov n) ≡ false → length (weights_in (hierarchy.hcaa_shares r d l cov n)) ≡ n
  unfolding hierarchy.hcaa_shares
  hcaa_length r e = (shares_length r.metric r.inputs cov (hierarchy.hcaa_rows d l cov n) n r.clusters e).1

  rows_size : n ≤ 64 → length (hierarchy.hcaa_rows d l cov n) ≡ 2 * (n - 1)
  rows_size few = ap length hcaa_merged ∙ rows_length l n hcaa_distances few

record Hcaa-done (j : hcaa.HcaaJob) : Type 0 where
  few : j.assets ≤ 64
  some : eqb j.assets 0 ≡ false
  shared : is_none (hierarchy.hcaa_shares (hcaa.used_rule j) j.distance j.linkage (hcaa.hcaa_covariance j) j.assets) ≡ false

hcaa_done : (j : hcaa.HcaaJob) → hcaa.hcaa_outcome j room_of_hcaa ≡ Ok tt → Hcaa-done j
unfolding hcaa.hcaa_outcome hcaa.hcaa_table hcaa.name_lines hcaa.names_judged hierarchy.share_lines hierarchy.hcaa_risk_lines matrix_lines
hcaa_done j e =
    let sizes = matrix_lines j.assets j.prices_shape (length j.prices) j.returns_shape (length j.returns) j.covariance_shape (length j.covariance) in
    let a = parts_done sizes _ e in
    let b = parts_done (hierarchy.room_lines j.assets room_of_hcaa) _ a.1 in
    let s = parts_done (hcaa.name_lines j) _ b.1 in
    let t = parts_done (hcaa.matrix_rules j) _ s.1 in
    let u = parts_done (hcaa.sharpe_lines j) _ t.1 in
    let w = parts_done (hierarchy.rule_lines (hcaa.used_rule j) j.assets) _ u.1 in
    record { few = ltb-false 64 j.assets (none sizes a.0).0; some = (none _ s.0).1.1.0; shared = (none _ w.1).1.0 }

hcaa_built : (text : List ℕ) (l : Linkage) (d : Distance) → hcaa.hcaa_outcome (hcaa_job_in text l d) room_of_hcaa ≡ Ok tt → Built text (Ok (jobs.Hcaa (block_in text) l d))
unfolding hcaa_job_in block_in
hcaa_built text l d e =
    let n = assets text in
    let b = block_in text in
    let cov = hcaa.hcaa_covariance (hcaa_job_in text l d) in
    let g = hcaa_done (hcaa_job_in text l d) e in
    grown text (Ok (jobs.Hcaa b l d)) g.few g.some l (hcaa_distances n cov l d)
    (hcaa_rows_lem text l d b ∙ hcaa_merged n cov l d) (hcaa_order_lem text l d b ∙ hcaa_leaves n cov l d) (ap length (hcaa_weights text l d b) ∙ hcaa_length n cov l d _ g.shared)

-- ---- either

built_as : (text : List ℕ) (job : Reading) → job_in text ≡ job → allocator_says text job ≡ Ok tt → Built text job
unfolding allocator_says
built_as text (Err r) j e = absurd (let z : ◌≡◌ {A = ℕ} 0 1 = cc in omega arith)
built_as text (Ok (jobs.Hrp b d)) j e = subst (λ (k : Block). Built text (Ok (jobs.Hrp k d))) (sym (job_hrp text b d j).block_is) (hrp_built text d e)
built_as text (Ok (jobs.Hcaa b l d)) j e = subst (λ (k : Block). Built text (Ok (jobs.Hcaa k l d))) (sym (job_hcaa text b l d j).block_is) (hcaa_built text l d e)

pub built : (text : List ℕ) → allocator_says text (job_in text) ≡ Ok tt → Built text (job_in text)
built text e = built_as text (job_in text) refl e

-- ---- demand 3

-- buffers as an accepted job leaves them
laid_out : (j : hcaa.HcaaJob) (room : hierarchy.Room) → hcaa.hcaa_outcome j room ≡ Ok tt
    → hcaa.HcaaAllocated j room (Ok tt)
    (laid 0 (hcaa.hcaa_outcome j room) room.rows (hierarchy.hcaa_rows j.distance j.linkage (hcaa.hcaa_covariance j) j.assets))
    (laid 0 (hcaa.hcaa_outcome j room) room.order (hierarchy.hcaa_order j.distance j.linkage (hcaa.hcaa_covariance j) j.assets))
    (laid pz (hcaa.hcaa_outcome j room) room.weights (weights_in (hierarchy.hcaa_shares (hcaa.used_rule j) j.distance j.linkage (hcaa.hcaa_covariance j) j.assets)))
    (zeros room.scratch)
laid_out j room o = allocated j room (Ok tt) _ _ _ _ (sym o) (record { rows_are = refl; order_is = refl; weights_are = refl; scratch_is = refl })

equal_weights : (j : hcaa.HcaaJob) → hcaa.hcaa_outcome j room_of_hcaa ≡ Ok tt → hcaa.used_metric j ≡ EqualWeighting
    → EqualShares j.assets (hcaa.cluster_count j.clusters j.assets) (hierarchy.hcaa_rows j.distance j.linkage (hcaa.hcaa_covariance j) j.assets)
    (weights_in (hierarchy.hcaa_shares (hcaa.used_rule j) j.distance j.linkage (hcaa.hcaa_covariance j) j.assets))
equal_weights j o e =
    let n = j.assets in
    let l = j.linkage in
    let d = j.distance in
    let cov = hcaa.hcaa_covariance j in
    let g = hcaa_done j o in
    let r = laid_front 0 (hcaa.hcaa_outcome j room_of_hcaa) 126 (2 * (n - 1)) (hierarchy.hcaa_rows d l cov n) _ refl o (rows_size n cov l d g.few) in
    let w = laid_front pz (hcaa.hcaa_outcome j room_of_hcaa) 64 n (weights_in (hierarchy.hcaa_shares (hcaa.used_rule j) d l cov n)) _ refl o (hcaa_length n cov l d _ g.shared) in
    rw (r, w) at ((laid_out j room_of_hcaa o).equally.shares refl e)

-- of the text's own job
module _ (text : List ℕ) (l : Linkage) (d : Distance) where
  pub equal_text : hcaa.hcaa_outcome (hcaa_job_in text l d) room_of_hcaa ≡ Ok tt → hcaa.used_metric (hcaa_job_in text l d) ≡ EqualWeighting
      → EqualShares (assets text) (hcaa.cluster_count (clusters_in text) (assets text)) (hierarchy.hcaa_rows d l (hcaa.hcaa_covariance (hcaa_job_in text l d)) (assets text))
      (weights_in (hierarchy.hcaa_shares (hcaa.used_rule (hcaa_job_in text l d)) d l (hcaa.hcaa_covariance (hcaa_job_in text l d)) (assets text)))
  unfolding hcaa_job_in
  equal_text o e = equal_weights (hcaa_job_in text l d) o e
