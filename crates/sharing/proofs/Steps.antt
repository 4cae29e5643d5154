-- The steps of `share` in plain lists. Assumes nothing.
use Prim.Native.Nat.{ℕ, ◌+◌, ◌-◌, ◌<◌, ◌≤◌}
use mathlib.Core.Path.{◌≡◌, ◌∙◌}
use mathlib.Core.List.{List}
use native.Mathlib.Omega.{arith}
use lib.ListN.{length, set}
use lib.Ieee.{Float, binary64, mul, sub}
use borrow.Author.Tests.{le-leb, lt-leb}
use Rattle.arithmetic.specs.Constants.{unit}
use Rattle.refusal.specs.declared.Refusal.{Refusal}
use Rattle.tree.specs.Tree.{left, right, leaves_of}
use Rattle.tree.proofs.Tree.{tree_leaf, tree_on, on_left, on_right}
use Rattle.branches.specs.Summary.{part_of}
use Rattle.clusters.specs.Shares.{Shares, none, some, with_shares}
use Rattle.refusal.specs.Table.{Outcome}
use Rattle.metrics.specs.declared.Metric.{Metric}
use Rattle.metrics.specs.declared.Split.{Split}
use Rattle.metrics.specs.Split.{Inputs, split_of}
use Rattle.sharing.specs.Allot.{if_done, inside_of, onward, allotted, allotted_at}
use Rattle.sharing.specs.Inner.{Below, Dealt, Down}
use Rattle.sharing.proofs.Laws.{leaves_dealt}
use Rattle.std.specs.Prelude.{Ok, Err}
use Rattle.metrics.specs.Outcomes.{Splitting}

module _ {rows : List ℕ} {n v : ℕ} (p : Below rows n v) (ge : n ≤ v) where
  below_left : Below rows n (left rows (v - n))
  below_left = record { on = on_left p.on ge; most = p.most }

  below_right : Below rows n (right rows (v - n))
  below_right = record { on = on_right p.on ge; most = p.most }

-- ---- what is looked up, and what the two calls ask

module _ {metric : Metric} {x : Inputs} {rows : List ℕ} {n k v : ℕ} {order firsts sizes : List ℕ} {ws : List Float} (p : Down metric x rows n k v order firsts sizes ws) where
  own_part : {ms : List ℕ} → ms ≡ part_of order firsts sizes n v → ms ≡ leaves_of rows n v
  own_part e = e ∙ p.summary.part v p.node.on.node

  pub members_dealt : {ms : List ℕ} → ms ≡ part_of order firsts sizes n v → Dealt ms (length ws)
  members_dealt e = rw (own_part e) (leaves_dealt p.node (length ws) p.each)

  module _ (ge : n ≤ v) where
    left_part : {ls : List ℕ} → ls ≡ part_of order firsts sizes n (left rows (v - n)) → ls ≡ leaves_of rows n (left rows (v - n))
    left_part e = e ∙ p.summary.part (left rows (v - n)) (below_left p.node ge).on.node

    right_part : {rs : List ℕ} → rs ≡ part_of order firsts sizes n (right rows (v - n)) → rs ≡ leaves_of rows n (right rows (v - n))
    right_part e = e ∙ p.summary.part (right rows (v - n)) (below_right p.node ge).on.node

    pub down_left : Down metric x rows n k (left rows (v - n)) order firsts sizes ws
    down_left = record { node = below_left p.node ge; summary = p.summary; cut = p.cut; each = p.each; fed = p.fed }

    pub down_right : {mid : List Float} → length mid ≡ length ws → Down metric x rows n k (right rows (v - n)) order firsts sizes mid
    down_right h = record { node = below_right p.node ge; summary = p.summary; cut = p.cut; each = omega (arith, p.each); fed = p.fed }

-- ---- what they give

module _ {metric : Metric} {x : Inputs} {rows : List ℕ} {n k v : ℕ} {order firsts sizes : List ℕ} {ws : List Float} (p : Down metric x rows n k v order firsts sizes ws) (cov : List Float) (w : Float) where
  pub allot_leaf : v < n → allotted_at metric x cov rows n k v w ws ≡ some (set ws v w)
  unfolding allotted
  allot_leaf h = rw (tree_leaf rows n v h)

  module _ (ge : n ≤ v) where
    pub allot_cut : {ms : List ℕ} {o : Shares} → v - n + k < n → ms ≡ part_of order firsts sizes n v → o ≡ inside_of metric cov n ms w ws → o ≡ allotted_at metric x cov rows n k v w ws
    unfolding allotted
    allot_cut h e all = rw (tree_on p.node.on ge, lt-leb n (v - n + k) h) (rw (own_part p e, tree_on p.node.on ge) at all)

    module _ (h : n ≤ v - n + k) {ls rs : List ℕ} (a : ls ≡ part_of order firsts sizes n (left rows (v - n))) (b : rs ≡ part_of order firsts sizes n (right rows (v - n)))
        {o : Splitting} (g : o ≡ split_of metric x cov n ls rs) where
      allot_split : allotted_at metric x cov rows n k v w ws
          ≡ onward o
          (λ s. with_shares (allotted_at metric x cov rows n k (left rows (v - n)) (mul binary64 w s.factor) ws)
          (λ mid. allotted_at metric x cov rows n k (right rows (v - n)) (mul binary64 w (sub binary64 unit s.factor)) mid))
      unfolding allotted
      allot_split = rw (g, left_part p ge a, right_part p ge b, tree_on p.node.on ge, le-leb n (v - n + k) h)

      pub no_split : {r : Refusal} → o ≡ Err r → allotted_at metric x cov rows n k v w ws ≡ none
      no_split q = rw (allot_split, q)

      -- the left call refused, or left `mid` and the right call said what it gave
      module _ {s : Split} (q : o ≡ Ok s) (said : Outcome) (mid : List Float) (one : if_done said mid ≡ allotted_at metric x cov rows n k (left rows (v - n)) (mul binary64 w s.factor) ws) where
        pub left_refused : {r : Refusal} → said ≡ Err r → allotted_at metric x cov rows n k v w ws ≡ none
        left_refused h = rw (allot_split, q, ← one, h)

        pub both : {o2 : Shares} → said ≡ Ok tt → o2 ≡ allotted_at metric x cov rows n k (right rows (v - n)) (mul binary64 w (sub binary64 unit s.factor)) mid
            → o2 ≡ allotted_at metric x cov rows n k v w ws
        both h two = rw (allot_split, q, ← one, h) two
