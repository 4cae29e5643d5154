-- What the summary of a tree says of each node.
--     size_is      its size is the number of its leaves
--     part_is      its leaves are the part of the leaf order that begins at its first place and has its size
--     first_is, depth_is     numbers that go from each row's node to its children as places and depths do are the places and depths
--     subtotal_fork, subtotal_all     a node's subtotal is the sum of its two children's, and the root's is the total
-- Assumes nothing.
use mathlib.Core.Path.{◌≡◌, refl, sym, ap, ◌∙◌}
use mathlib.Core.Bool.{true}
use mathlib.Core.List.{List, ◌++◌}
use Prim.Native.Nat.{ℕ, suc, ◌+◌, ◌-◌, ◌*◌, ◌≤◌, ◌<◌}
use native.Mathlib.Omega.{arith}
use lib.ListN.{length, get_or, take, drop, length-append}
use lib.Seq.{take_at, drop_at, take_all, take-take, take-add, drop-drop}
use Rattle.lent.specs.Count.{upto}
use Rattle.lent.proofs.Counting.{over_all_append, over_all_upto}
use Rattle.tree.specs.Tree.{left, right, leaves_of}
use Rattle.tree.specs.Rows.{is_tree}
use Rattle.tree.proofs.Rows.{IsTree, is_tree_lem}
use Rattle.tree.proofs.Walk.{leaves_fork}
use Rattle.tree.proofs.Order.{order_each, leaves_low}
use Rattle.branches.specs.Branch.{branches, find, first_of, size_of, depth_of, members_of, subtotal}
use Rattle.branches.proofs.Walk.{find_each, walk_each, all_there}

-- a list that begins with two lists
split : (A B X : List ℕ) → take (length A + length B) X ≡ A ++ B → (take (length A) X ≡ A) × (take (length B) (drop (length A) X) ≡ B)
split A B X e =
    let a : take (length A) X ≡ A = sym (take-take (length A) (length A + length B) X (omega arith)) ∙ ap (take (length A)) e ∙ take_at A B (length A) refl in
    let b : take (length A) X ++ take (length B) (drop (length A) X) ≡ A ++ B = sym (take-add (length A) (length B) X) ∙ e in
    (a, sym (drop_at (take (length A) X) (take (length B) (drop (length A) X)) (length A) (ap length a)) ∙ ap (drop (length A)) b ∙ drop_at A B (length A) refl)

module _ (rows : List ℕ) (n : ℕ) (some : 1 ≤ n) (tree : is_tree rows n ≡ true) where
  t : IsTree rows n
  t = is_tree_lem rows n tree

  fork_leaves : (v : ℕ) → n ≤ v → v ≤ 2 * n - 2 → leaves_of rows n v ≡ leaves_of rows n (left rows (v - n)) ++ leaves_of rows n (right rows (v - n))
  fork_leaves v le h = leaves_fork (record { some = some; tree = tree; node = h }) le

  pub fork_size : (v : ℕ) → n ≤ v → v ≤ 2 * n - 2 → length (leaves_of rows n v) ≡ length (leaves_of rows n (left rows (v - n))) + length (leaves_of rows n (right rows (v - n)))
  fork_size v le h = rw (fork_leaves v le h) (length-append (leaves_of rows n (left rows (v - n))) (leaves_of rows n (right rows (v - n))))

  module _ (Q : ℕ → ℕ → ℕ → Type 0)
      (lefts : (v p d : ℕ) → n ≤ v → v ≤ 2 * n - 2 → Q v p d → Q (left rows (v - n)) p (suc d))
      (rights : (v p d : ℕ) → n ≤ v → v ≤ 2 * n - 2 → Q v p d → Q (right rows (v - n)) (p + length (leaves_of rows n (left rows (v - n)))) (suc d)) where
    pub found : Q (2 * n - 2) 0 0 → (v : ℕ) → v ≤ 2 * n - 2 → Q v (first_of rows n v) (depth_of rows n v) × (size_of rows n v ≡ length (leaves_of rows n v))
    unfolding first_of depth_of size_of branches
    found q v h =
        let b = find v (branches rows n) in
        let f = find_each (λ x. Q x.node x.first x.depth × (x.size ≡ length (leaves_of rows n x.node))) v (branches rows n) (all_there rows n some t v h) (walk_each rows n some t Q lefts rights (2 * n - 2) (omega arith) 0 0 q) in
        let g : Q b.node b.first b.depth × (b.size ≡ length (leaves_of rows n b.node)) = f.1 in
        rw f.0 at g

  pub size_is : (v : ℕ) → v ≤ 2 * n - 2 → size_of rows n v ≡ length (leaves_of rows n v)
  size_is v h = (found (λ u p d. Unit) (λ u p d le k q. tt) (λ u p d le k q. tt) tt v h).1

  pub part_is : (v : ℕ) → v ≤ 2 * n - 2 → members_of rows n v ≡ leaves_of rows n v
  unfolding members_of
  part_is v h =
      let order = leaves_of rows n (2 * n - 2) in
      let at : (u p : ℕ) → n ≤ u → u ≤ 2 * n - 2 → take (length (leaves_of rows n u)) (drop p order) ≡ leaves_of rows n u
      → (take (length (leaves_of rows n (left rows (u - n)))) (drop p order) ≡ leaves_of rows n (left rows (u - n)))
      × (take (length (leaves_of rows n (right rows (u - n)))) (drop (length (leaves_of rows n (left rows (u - n)))) (drop p order)) ≡ leaves_of rows n (right rows (u - n)))
      = λ u p le k e. split (leaves_of rows n (left rows (u - n))) (leaves_of rows n (right rows (u - n))) (drop p order) (rw (← fork_size u le k, ← fork_leaves u le k) e) in
      rw (size_is v h)
      (found (λ u p d. take (length (leaves_of rows n u)) (drop p order) ≡ leaves_of rows n u)
      (λ u p d le k e. (at u p le k e).0)
      (λ u p d le k e. rw (← drop-drop (length (leaves_of rows n (left rows (u - n)))) p order) (at u p le k e).1)
      (take_all (length order) order (omega arith)) v h).0

  pub first_is : (F : ℕ → ℕ) → F (2 * n - 2) ≡ 0
      → ((k : ℕ) → k < n - 1 → F (left rows k) ≡ F (n + k))
      → ((k : ℕ) → k < n - 1 → F (right rows k) ≡ F (n + k) + length (leaves_of rows n (left rows k)))
      → (v : ℕ) → v ≤ 2 * n - 2 → first_of rows n v ≡ F v
  first_is F z l r v h =
      (found (λ u p d. p ≡ F u)
      (λ u p d le k e. let s : n + (u - n) ≡ u = omega arith in e ∙ ap F (sym s) ∙ sym (l (u - n) (omega arith)))
      (λ u p d le k e. let s : n + (u - n) ≡ u = omega arith in ap (λ (m : ℕ). m + length (leaves_of rows n (left rows (u - n)))) (e ∙ ap F (sym s)) ∙ sym (r (u - n) (omega arith)))
      (sym z) v h).0

  pub depth_is : (F : ℕ → ℕ) → F (2 * n - 2) ≡ 0
      → ((k : ℕ) → k < n - 1 → F (left rows k) ≡ F (n + k) + 1)
      → ((k : ℕ) → k < n - 1 → F (right rows k) ≡ F (n + k) + 1)
      → (v : ℕ) → v ≤ 2 * n - 2 → depth_of rows n v ≡ F v
  depth_is F z l r v h =
      (found (λ u p d. d ≡ F u)
      (λ u p d le k e. let s : F (n + (u - n)) ≡ F u = ap F (omega arith) in omega (arith, l (u - n) (omega arith)))
      (λ u p d le k e. let s : F (n + (u - n)) ≡ F u = ap F (omega arith) in omega (arith, r (u - n) (omega arith)))
      (sym z) v h).0

  -- ---- subtotals

  pub subtotal_fork : (xs : List ℕ) (v : ℕ) → n ≤ v → v ≤ 2 * n - 2
      → subtotal xs (leaves_of rows n v) ≡ subtotal xs (leaves_of rows n (left rows (v - n))) + subtotal xs (leaves_of rows n (right rows (v - n)))
  unfolding subtotal
  subtotal_fork xs v le h = rw (fork_leaves v le h) (over_all_append (λ a. get_or xs a 0) (leaves_of rows n (left rows (v - n))) (leaves_of rows n (right rows (v - n))))

  pub subtotal_all : (xs : List ℕ) → subtotal xs (leaves_of rows n (2 * n - 2)) ≡ upto (λ a. get_or xs a 0) n
  unfolding subtotal
  subtotal_all xs = over_all_upto (λ a. get_or xs a 0) n (leaves_of rows n (2 * n - 2)) (leaves_low rows n tree some (2 * n - 2) (omega arith)) (order_each rows n tree some)
