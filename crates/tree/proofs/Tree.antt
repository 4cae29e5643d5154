-- The tree at a node is its two children's. No proof but these looks at the depth that `grow` counts.
--     tree_leaf, tree_fork     the tree at an asset, and at a row's node
--     node_ind                 what holds of the assets, and of a row's node where it holds of its children, holds of every node
--     row_fits, left_falls, right_falls, on_left, on_right     what a step down from a node v asks
-- Assumes nothing.
use mathlib.Core.Path.{◌≡◌, refl, ap₂}
use mathlib.Core.Bool.{Bool, true, false}
use mathlib.Core.List.{List}
use Prim.Native.Nat.{ℕ, zero, suc, ◌+◌, ◌-◌, ◌*◌, ◌≤◌, ◌<◌}
use native.Mathlib.Omega.{arith}
use native.Mathlib.Decide.{dec_lt}
use lib.Dec.{ltb}
use lib.ListN.{length}
use borrow.Author.Tests.{lt-ltb, le-ltb, ltb-false}
use Rattle.tree.specs.Tree.{leaf, fork, left, right, grow, tree_at}
use Rattle.tree.specs.Inner.{OnTree}
use Rattle.tree.proofs.Rows.{IsTree, is_tree_lem}

grow_leaf : (d : ℕ) (rows : List ℕ) (n v : ℕ) → grow d true rows n v ≡ leaf v
unfolding grow
grow_leaf zero rows n v = refl
grow_leaf (suc d) rows n v = refl

pub tree_leaf : (rows : List ℕ) (n v : ℕ) → v < n → tree_at rows n v ≡ leaf v
unfolding tree_at
tree_leaf rows n v h = rw (lt-ltb v n h) (grow_leaf v rows n v)

module _ {rows : List ℕ} {n : ℕ} (some : 1 ≤ n) (t : IsTree rows n) where
  left_low : (v : ℕ) → n ≤ v → v ≤ 2 * n - 2 → left rows (v - n) < v
  left_low v le h = omega (arith, t.size, t.low (2 * (v - n)) (omega (arith, t.size)))

  right_low : (v : ℕ) → n ≤ v → v ≤ 2 * n - 2 → right rows (v - n) < v
  right_low v le h = omega (arith, t.size, t.low (2 * (v - n) + 1) (omega (arith, t.size)))

  -- any depth from v on will do. The depth is matched first: the call keeps what was matched before it
  deep : (d e v : ℕ) (b : Bool) → ltb v n ≡ b → v ≤ 2 * n - 2 → v ≤ d → v ≤ e → grow d b rows n v ≡ grow e b rows n v
  unfolding grow
  deep zero e v true q h hd he = rw (grow_leaf e rows n v)
  deep (suc d) e v true q h hd he = rw (grow_leaf e rows n v)
  deep zero e v false q h hd he = absurd (omega (arith, ltb-false v n q))
  deep (suc d) zero v false q h hd he = absurd (omega (arith, ltb-false v n q))
  deep (suc d) (suc e) v false q h hd he =
      let ll = left_low v (ltb-false v n q) h in
      let rl = right_low v (ltb-false v n q) h in
      ap₂ (fork (v - n))
      (deep d e (left rows (v - n)) (ltb (left rows (v - n)) n) refl (omega arith) (omega arith) (omega arith))
      (deep d e (right rows (v - n)) (ltb (right rows (v - n)) n) refl (omega arith) (omega arith) (omega arith))

  pub tree_fork : (v : ℕ) → n ≤ v → v ≤ 2 * n - 2 → tree_at rows n v ≡ fork (v - n) (tree_at rows n (left rows (v - n))) (tree_at rows n (right rows (v - n)))
  unfolding tree_at grow
  tree_fork zero le h = absurd (omega arith)
  tree_fork (suc w) le h =
      let v = suc w in
      let ll = left_low v le h in
      let rl = right_low v le h in
      rw (le-ltb v n le)
      (ap₂ (fork (v - n))
      (deep w (left rows (v - n)) (left rows (v - n)) (ltb (left rows (v - n)) n) refl (omega arith) (omega arith) (omega arith))
      (deep w (right rows (v - n)) (right rows (v - n)) (ltb (right rows (v - n)) n) refl (omega arith) (omega arith) (omega arith)))

  module _ (P : ℕ → Type 0) (one : (v : ℕ) → v < n → P v) (both : (v : ℕ) → n ≤ v → v ≤ 2 * n - 2 → P (left rows (v - n)) → P (right rows (v - n)) → P v) where
    below_ind : (d v : ℕ) → v ≤ d → v ≤ 2 * n - 2 → P v
    below_ind zero v le h = one v (omega arith)
    below_ind (suc d) v le h =
        elim (dec_lt v n) [
          | yes lt ↦ one v lt
          | no ge ↦
              let ll = left_low v (omega arith) h in
              let rl = right_low v (omega arith) h in
              both v (omega arith) h (below_ind d (left rows (v - n)) (omega arith) (omega arith)) (below_ind d (right rows (v - n)) (omega arith) (omega arith))
        ]

    pub node_ind : (v : ℕ) → v ≤ 2 * n - 2 → P v
    node_ind v h = below_ind v v (omega arith) h

module _ {rows : List ℕ} {n v : ℕ} (p : OnTree rows n v) (ge : n ≤ v) where
  -- both of the row's entries are there
  pub row_fits : 2 * (v - n) + 1 < length rows
  row_fits = omega (arith, (is_tree_lem rows n p.tree).size, p.node, p.some)

  pub left_falls : left rows (v - n) < v
  left_falls = left_low p.some (is_tree_lem rows n p.tree) v ge p.node

  pub right_falls : right rows (v - n) < v
  right_falls = right_low p.some (is_tree_lem rows n p.tree) v ge p.node

  pub on_left : OnTree rows n (left rows (v - n))
  on_left = record { some = p.some; tree = p.tree; node = omega (arith, left_falls, p.node) }

  pub on_right : OnTree rows n (right rows (v - n))
  on_right = record { some = p.some; tree = p.tree; node = omega (arith, right_falls, p.node) }

  pub tree_on : tree_at rows n v ≡ fork (v - n) (tree_at rows n (left rows (v - n))) (tree_at rows n (right rows (v - n)))
  tree_on = tree_fork p.some (is_tree_lem rows n p.tree) v ge p.node
