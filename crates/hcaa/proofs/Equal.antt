-- Demand 3 of every accepted job by equal weighting. Assumes nothing.
use Prim.Native.Nat.{ℕ, ◌*◌, ◌-◌, ◌≤◌}
use mathlib.Core.Path.{◌≡◌, sym, ap, ◌∙◌}
use mathlib.Core.Bool.{false}
use mathlib.Core.List.{List}
use native.Mathlib.Omega.{arith}
use borrow.Author.Tests.{ltb-false, eqb-false}
use lib.ListN.{length, take, replicate}
use lib.Seq.{take-append_seam}
use lib.Ieee.{Float}
use Rattle.arithmetic.specs.Constants.{pz}
use Rattle.refusal.proofs.Tables.{none, parts_done}
use Rattle.lent.specs.Lent.{laid}
use Rattle.inputs.specs.Inputs.{matrix_lines}
use Rattle.tree.specs.Rows.{is_tree}
use Rattle.distances.specs.declared.Measure.TheVariants.{Hcaa}
use Rattle.arranging.proofs.Laws.{tree_is, length_rows}
use Rattle.clusters.specs.Shares.{is_none, weights_in}
use Rattle.metrics.specs.declared.Metric.{Metric}
use Rattle.metrics.specs.declared.Metric.TheVariants.{EqualWeighting}
use Rattle.sharing.specs.Allot.{down_shares}
use Rattle.sharing.specs.Down.{metric_tail_lines}
use Rattle.sharing.proofs.Judged.{neither, shares_length}
use Rattle.equal.specs.Equal.{EqualShares}
use Rattle.equal.proofs.Sharing.{equal_shared}
use Rattle.hierarchy.specs.Hierarchy.{Room, hcaa_rows, hcaa_shares, room_lines, share_lines, HierarchyLaid}
use Rattle.hcaa.specs.Hcaa.{HcaaJob, used_metric, used_inputs, hcaa_covariance, used_rule, cluster_count, name_lines, matrix_rules, sharpe_lines, hcaa_table, hcaa_outcome, HcaaAllocated}
use Rattle.std.specs.Prelude.{Ok}
use Rattle.refusal.specs.Table.{Outcome}

-- what stands at the front of a buffer after an accepted job
front : {A : Type 0} (z : A) (o : Outcome) (room n : ℕ) (cells out : List A) → o ≡ Ok tt → length cells ≡ n → out ≡ laid z o room cells → take n out ≡ cells
unfolding laid
front z o room n cells out e h g = rw (g, e, ← h) (take-append_seam cells (replicate (room - length cells) z))

module _ (j : HcaaJob) (room : Room) (o : hcaa_outcome j room ≡ Ok tt) where
  -- what the lines find right
  record Right : Type 0 where
    few : j.assets ≤ 64
    some_asset : 1 ≤ j.assets
    least : 1 ≤ cluster_count j.clusters j.assets
    cut : cluster_count j.clusters j.assets ≤ j.assets
    shared : is_none (hcaa_shares (used_rule j) j.distance j.linkage (hcaa_covariance j) j.assets) ≡ false

  right : Right
  unfolding hcaa_outcome hcaa_table matrix_lines name_lines share_lines metric_tail_lines used_rule
  right =
      let a = parts_done (matrix_lines j.assets j.prices_shape (length j.prices) j.returns_shape (length j.returns) j.covariance_shape (length j.covariance)) _ o in
      let b = parts_done (room_lines j.assets room) _ a.1 in
      let c = parts_done (name_lines j) _ b.1 in
      let d = parts_done (matrix_rules j) _ c.1 in
      let e = parts_done (sharpe_lines j) _ d.1 in
      let s = none (share_lines (used_rule j) j.distance j.linkage (hcaa_covariance j) j.assets) e.1 in
      let k = neither _ _ s.1.1.0 in
      let none_of : j.assets ≡ 0 → ⊥ = eqb-false j.assets 0 (none (name_lines j) c.0).1.1.0 in
      let no-count : cluster_count j.clusters j.assets ≡ 0 → ⊥ = eqb-false (cluster_count j.clusters j.assets) 0 k.0 in
      record {
        few = ltb-false 64 j.assets (none (matrix_lines j.assets j.prices_shape (length j.prices) j.returns_shape (length j.returns) j.covariance_shape (length j.covariance)) a.0).0;
        some_asset = omega arith;
        least = omega arith;
        cut = ltb-false j.assets (cluster_count j.clusters j.assets) k.1;
        shared = s.1.1.1.1.0;
      }

  abbrev rows_made : List ℕ
  rows_made = hcaa_rows j.distance j.linkage (hcaa_covariance j) j.assets

  abbrev weights_made : List Float
  weights_made = weights_in (hcaa_shares (used_rule j) j.distance j.linkage (hcaa_covariance j) j.assets)

  rows_size : length rows_made ≡ 2 * (j.assets - 1)
  unfolding hcaa_rows
  rows_size = length_rows Hcaa j.distance j.linkage _ j.assets right.few

  rows_are_tree : is_tree rows_made j.assets ≡ mathlib.Core.Bool.true
  unfolding hcaa_rows
  rows_are_tree = tree_is Hcaa j.distance j.linkage _ j.assets right.some_asset right.few

  weights_size : length weights_made ≡ j.assets
  unfolding hcaa_shares
  weights_size = (shares_length _ _ _ _ _ _ right.shared).1

  equal_job : used_metric j ≡ EqualWeighting → EqualShares j.assets (cluster_count j.clusters j.assets) rows_made weights_made
  unfolding hcaa_shares used_rule
  equal_job m =
      equal_shared (used_inputs j) (hcaa_covariance j) j.assets (cluster_count j.clusters j.assets) rows_made right.some_asset right.few rows_are_tree right.least right.cut _
      (ap (λ (x : Metric). down_shares x (used_inputs j) (hcaa_covariance j) rows_made j.assets (cluster_count j.clusters j.assets)) (sym m) ∙ (shares_length _ _ _ _ _ _ right.shared).0)

-- of the buffers that an accepted job leaves, whoever says the outcome
pub equal_laid : (j : HcaaJob) (room : Room) (o : Outcome) (rows order : List ℕ) (weights scratch : List Float) → o ≡ Ok tt → hcaa_outcome j room ≡ Ok tt → used_metric j ≡ EqualWeighting
    → HierarchyLaid o (used_rule j) j.distance j.linkage (hcaa_covariance j) j.assets room rows order weights scratch
    → EqualShares j.assets (cluster_count j.clusters j.assets) (take (2 * (j.assets - 1)) rows) (take j.assets weights)
equal_laid j room o rows order weights scratch e h m z =
    let x = front 0 o room.rows (2 * (j.assets - 1)) _ rows e (rows_size j room h) z.rows_are in
    let y = front pz o room.weights j.assets _ weights e (weights_size j room h) z.weights_are in
    rw (x, y) (equal_job j room h m)

pub allocated : (j : HcaaJob) (room : Room) (r : Outcome) (rows order : List ℕ) (weights scratch : List Float) → r ≡ hcaa_outcome j room
    → HierarchyLaid (hcaa_outcome j room) (used_rule j) j.distance j.linkage (hcaa_covariance j) j.assets room rows order weights scratch → HcaaAllocated j room r rows order weights scratch
allocated j room r rows order weights scratch a z = record {
  answer = a;
  buffers = z;
  equally = record { shares = λ e m. equal_laid j room (hcaa_outcome j room) rows order weights scratch (sym a ∙ e) (sym a ∙ e) m z };
}
