-- The leaves of a tree are each asset once. Counting: what a row's node holds is what its two children hold, and every node but the
-- last is a child once, so that the last node holds what the assets hold together.
--     leaves_few, leaves_low              a node's leaves are at most n, and each is an asset
--     order_size, order_each, order_is    the last node's are n, each asset once
-- Assumes nothing.
use mathlib.Core.Path.{◌≡◌, refl, ◌∙◌}
use mathlib.Core.Bool.{true}
use mathlib.Core.List.{List, [], ◌∷◌, ◌++◌}
use Prim.Native.Nat.{ℕ, zero, suc, ◌+◌, ◌-◌, ◌*◌, ◌≤◌, ◌<◌}
use native.Mathlib.Nat.{add-suc}
use native.Mathlib.Decide.{dec_lt}
use native.Mathlib.Omega.{arith}
use lib.Dec.{eqb}
use lib.ListN.{length, get_or, take, length-append}
use lib.Seq.{take_all, take-suc, length-take-le, get_or-take}
use borrow.Author.Tests.{eq-eqb, ne_eqb}
use Rattle.lent.specs.Count.{one, count, upto, over_all}
use Rattle.lent.proofs.Counting.{count_append, over_all_snoc, over_all_upto, over_all_le, upto_same, upto_ones, upto_term, upto_hit}
use Rattle.tree.specs.Rows.{is_tree, is_order}
use Rattle.tree.specs.Tree.{left, right, leaves, leaves_of}
use Rattle.tree.proofs.Rows.{IsTree, is_tree_lem, order_holds}
use Rattle.tree.proofs.Tree.{tree_fork, node_ind}
use Rattle.tree.proofs.Walk.{leaves_leaf}

count_one_lem : (a v : ℕ) → count a (v ∷ []) ≡ one (eqb v a)
unfolding count
count_one_lem a v = omega arith

count_take : (x j : ℕ) (xs : List ℕ) → count x (take j xs) ≤ count x xs
unfolding count
count_take x zero xs = omega arith
count_take x (suc j) [] = omega arith
count_take x (suc j) (y ∷ ys) = omega (arith, count_take x j ys)

both_low : {n : ℕ} (xs ys : List ℕ) → ((j : ℕ) → j < length xs → get_or xs j 0 < n) → ((j : ℕ) → j < length ys → get_or ys j 0 < n)
    → (j : ℕ) → j < length (xs ++ ys) → get_or (xs ++ ys) j 0 < n
both_low [] ys a b j lt = b j lt
both_low (x ∷ xs) ys a b zero lt = a 0 (omega arith)
both_low (x ∷ xs) ys a b (suc j) lt = both_low xs ys (λ i h. a (suc i) (omega arith)) b j (omega arith)

only : {n : ℕ} (v : ℕ) → v < n → (j : ℕ) → j < 1 → get_or (v ∷ []) j 0 < n
only v h zero lt = h
only v h (suc j) lt = absurd (omega arith)

module _ (rows : List ℕ) (n : ℕ) (tree : is_tree rows n ≡ true) (some : 1 ≤ n) where
  t : IsTree rows n
  t = is_tree_lem rows n tree

  fork_leaves : (v : ℕ) → n ≤ v → v ≤ 2 * n - 2 → leaves_of rows n v ≡ leaves_of rows n (left rows (v - n)) ++ leaves_of rows n (right rows (v - n))
  unfolding leaves
  fork_leaves v le h = rw (tree_fork some t v le h)

  -- f adds up at each row's node
  module _ (f : ℕ → ℕ) (adds : (v : ℕ) → n ≤ v → v ≤ 2 * n - 2 → f v ≡ f (left rows (v - n)) + f (right rows (v - n))) where
    -- the nodes of the first k rows
    rowed : (k : ℕ) → 2 * k ≤ length rows → upto f (n + k) ≡ upto f n + over_all f (take (2 * k) rows)
    unfolding upto over_all
    rowed zero h = let z : n + 0 ≡ n = omega arith in rw z (omega arith)
    rowed (suc k) h =
        let two : 2 * suc k ≡ suc (suc (2 * k)) = omega arith in
        let one_more : take (suc (2 * k)) rows ≡ take (2 * k) rows ++ (left rows k ∷ []) = take-suc rows (2 * k) 0 (omega arith) in
        let o : 2 * k + 1 ≡ suc (2 * k) = omega arith in
        let two-more : take (suc (suc (2 * k))) rows ≡ take (suc (2 * k)) rows ++ (right rows k ∷ []) = rw o (take-suc rows (suc (2 * k)) 0 (omega arith)) in
        let same : n + k - n ≡ k = omega arith in
        let node : f (n + k) ≡ f (left rows k) + f (right rows k) = rw same at (adds (n + k) (omega arith) (omega (arith, t.size))) in
        rw (add-suc, two, two-more, one_more)
        (omega (arith, rowed k (omega arith), node, over_all_snoc f (take (2 * k) rows) (left rows k), over_all_snoc f (take (2 * k) rows ++ (left rows k ∷ [])) (right rows k)))

    -- the last node holds what the assets hold together
    pub root : f (2 * n - 2) ≡ upto f n
    unfolding upto
    root =
        let m = 2 * (n - 1) in
        let all : take m rows ≡ rows = take_all m rows (omega (arith, t.size)) in
        let nodes : upto f (n + (n - 1)) ≡ upto f n + over_all f rows = rw all at (rowed (n - 1) (omega (arith, t.size))) in
        let kids : over_all f rows ≡ upto f m = over_all_upto f m rows (λ j lt. omega (arith, t.low j lt, t.size)) t.each in
        let last : n + (n - 1) ≡ suc m = omega arith in
        let same : 2 * n - 2 ≡ m = omega arith in
        rw same (omega (arith, rw last at nodes, kids))

    -- and no node holds more
    pub node_le : (v : ℕ) → v ≤ 2 * n - 2 → f v ≤ upto f n
    unfolding upto
    node_le v h =
        elim (dec_lt v n) [
          | yes lt ↦ upto_term f n v lt
          | no ge ↦
              let k = v - n in
              let fits : 2 * suc k ≤ length rows = omega (arith, t.size) in
              let kids : over_all f (take (2 * suc k) rows) ≤ upto f v = over_all_le f v (take (2 * suc k) rows)
              (λ j lt.
              let inside : j < 2 * suc k = omega (arith, length-take-le (2 * suc k) rows fits) in
              rw (get_or-take (2 * suc k) rows j 0 inside) (omega (arith, t.low j (omega arith))))
              (λ x lt. omega (arith, count_take x (2 * suc k) rows, t.each x (omega arith))) in
              let last : n + suc k ≡ suc v = omega arith in
              omega (arith, rw last at (rowed (suc k) fits), kids)
        ]

  size_adds : (v : ℕ) → n ≤ v → v ≤ 2 * n - 2 → length (leaves_of rows n v) ≡ length (leaves_of rows n (left rows (v - n))) + length (leaves_of rows n (right rows (v - n)))
  size_adds v le h = rw (fork_leaves v le h) (length-append (leaves_of rows n (left rows (v - n))) (leaves_of rows n (right rows (v - n))))

  sizes : upto (λ v. length (leaves_of rows n v)) n ≡ n
  sizes = upto_ones (λ v. length (leaves_of rows n v)) n (λ v lt. rw (leaves_leaf rows n v lt))

  -- a node has at most as many leaves as there are assets
  pub leaves_few : (v : ℕ) → v ≤ 2 * n - 2 → length (leaves_of rows n v) ≤ n
  leaves_few v h = rw sizes at (node_le (λ u. length (leaves_of rows n u)) size_adds v h)

  -- a leaf is an asset
  pub leaves_low : (v : ℕ) → v ≤ 2 * n - 2 → (j : ℕ) → j < length (leaves_of rows n v) → get_or (leaves_of rows n v) j 0 < n
  leaves_low = node_ind some t (λ v. (j : ℕ) → j < length (leaves_of rows n v) → get_or (leaves_of rows n v) j 0 < n)
      (λ v lt. rw (leaves_leaf rows n v lt) (only v lt))
      (λ v le h a b. rw (fork_leaves v le h) (both_low (leaves_of rows n (left rows (v - n))) (leaves_of rows n (right rows (v - n))) a b))

  pub order_size : length (leaves_of rows n (2 * n - 2)) ≡ n
  order_size = root (λ v. length (leaves_of rows n v)) size_adds ∙ sizes

  pub order_each : (a : ℕ) → a < n → count a (leaves_of rows n (2 * n - 2)) ≡ 1
  order_each a h =
      root (λ v. count a (leaves_of rows n v)) (λ v le k. rw (fork_leaves v le k) (count_append a (leaves_of rows n (left rows (v - n))) (leaves_of rows n (right rows (v - n)))))
      ∙ upto_same (λ v. count a (leaves_of rows n v)) (λ v. one (eqb v a)) n (λ v lt. rw (leaves_leaf rows n v lt) (count_one_lem a v))
      ∙ upto_hit (λ v. one (eqb v a)) a n h (λ x lt ne. rw (ne_eqb x a ne))
      ∙ rw (eq-eqb a a refl)

  pub order_is : is_order (leaves_of rows n (2 * n - 2)) n ≡ true
  order_is = order_holds (leaves_of rows n (2 * n - 2)) n order_size order_each
