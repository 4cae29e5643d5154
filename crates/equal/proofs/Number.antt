-- A tree cut by k has k clusters. Counting: a row's node that splits has its children's clusters, and one that does not has one where they have two.
-- Every node but the last is a child once, so that the last node has as many clusters as there are assets, less the rows that do not split.
-- Assumes nothing.
use mathlib.Core.Path.{◌≡◌, refl, sym, ap₂, ◌∙◌}
use mathlib.Core.Bool.{Bool, true, false}
use mathlib.Core.List.{List, [], ◌∷◌, ◌++◌}
use Prim.Native.Nat.{ℕ, zero, suc, ◌+◌, ◌-◌, ◌*◌, ◌≤◌, ◌<◌}
use native.Mathlib.Nat.{add-suc}
use native.Mathlib.Decide.{dec_lt}
use native.Mathlib.Omega.{arith}
use lib.Dec.{ltb}
use lib.ListN.{length, take, length-append}
use lib.Seq.{take_all, take-suc}
use borrow.Author.Tests.{lt-ltb, le-ltb, le-leb, lt-leb}
use Rattle.lent.specs.Count.{one, upto, over_all}
use Rattle.lent.proofs.Counting.{over_all_snoc, over_all_upto, upto_ones}
use Rattle.tree.specs.Rows.{is_tree}
use Rattle.tree.specs.Tree.{Tree, leaf, fork, left, right, tree_at}
use Rattle.tree.specs.Inner.{OnTree}
use Rattle.tree.proofs.Rows.{IsTree, is_tree_lem}
use Rattle.tree.proofs.Tree.{tree_leaf, tree_on, left_falls, right_falls}
use Rattle.sharing.specs.Allot.{splits}
use Rattle.equal.specs.Clusters.{cut, cut_at, clusters}

module _ (rows : List ℕ) (n : ℕ) (some : 1 ≤ n) (tree : is_tree rows n ≡ true) where
  t : IsTree rows n
  t = is_tree_lem rows n tree

  on : (v : ℕ) → v ≤ 2 * n - 2 → OnTree rows n v
  on v h = record { some = some; tree = tree; node = h }

  -- f adds up at each row's node but for what the row itself takes off
  module _ (f own : ℕ → ℕ) (adds : (v : ℕ) → n ≤ v → v ≤ 2 * n - 2 → f v + own (v - n) ≡ f (left rows (v - n)) + f (right rows (v - n))) where
    -- the nodes of the first k rows
    rowed : (k : ℕ) → 2 * k ≤ length rows → upto f (n + k) + upto own k ≡ upto f n + over_all f (take (2 * k) rows)
    unfolding upto over_all
    rowed zero h = let z : n + 0 ≡ n = omega arith in rw z (omega arith)
    rowed (suc k) h =
        let two : 2 * suc k ≡ suc (suc (2 * k)) = omega arith in
        let one_more : take (suc (2 * k)) rows ≡ take (2 * k) rows ++ (left rows k ∷ []) = take-suc rows (2 * k) 0 (omega arith) in
        let o : 2 * k + 1 ≡ suc (2 * k) = omega arith in
        let two-more : take (suc (suc (2 * k))) rows ≡ take (suc (2 * k)) rows ++ (right rows k ∷ []) = rw o (take-suc rows (suc (2 * k)) 0 (omega arith)) in
        let same : n + k - n ≡ k = omega arith in
        let node : f (n + k) + own k ≡ f (left rows k) + f (right rows k) = rw same at (adds (n + k) (omega arith) (omega (arith, t.size))) in
        rw (add-suc, two, two-more, one_more)
        (omega (arith, rowed k (omega arith), node, over_all_snoc f (take (2 * k) rows) (left rows k), over_all_snoc f (take (2 * k) rows ++ (left rows k ∷ [])) (right rows k)))

    -- the last node holds what the assets hold together, less what the rows take off
    root : f (2 * n - 2) + upto own (n - 1) ≡ upto f n
    unfolding upto
    root =
        let m = 2 * (n - 1) in
        let all : take m rows ≡ rows = take_all m rows (omega (arith, t.size)) in
        let nodes : upto f (n + (n - 1)) + upto own (n - 1) ≡ upto f n + over_all f rows = rw all at (rowed (n - 1) (omega (arith, t.size))) in
        let kids : over_all f rows ≡ upto f m = over_all_upto f m rows (λ j lt. omega (arith, t.low j lt, t.size)) t.each in
        let last : n + (n - 1) ≡ suc m = omega arith in
        let same : 2 * n - 2 ≡ m = omega arith in
        rw same (omega (arith, rw last at nodes, kids))

  module _ (k : ℕ) (least : 1 ≤ k) (most : k ≤ n) where
    size_at : ℕ → ℕ
    size_at v = length (cut_at rows n k v)

    -- 1 where the row's node does not split
    whole : ℕ → ℕ
    whole r = one (ltb (r + k) n)

    -- the number of clusters does not turn on the splits above
    deeper : (s : Tree) (b : Bool) (d e : ℕ) → length (cut n k d s b) ≡ length (cut n k e s b)
    unfolding cut
    deeper (leaf a) b d e = refl
    deeper (fork r l s) true d e =
        length-append (cut n k (suc d) l (splits n k l)) (cut n k (suc d) s (splits n k s))
        ∙ ap₂ ◌+◌ (deeper l (splits n k l) (suc d) (suc e)) (deeper s (splits n k s) (suc d) (suc e))
        ∙ sym (length-append (cut n k (suc e) l (splits n k l)) (cut n k (suc e) s (splits n k s)))
    deeper (fork r l s) false d e = refl

    size_leaf : (v : ℕ) → v < n → size_at v ≡ 1
    unfolding size_at cut
    size_leaf v h = rw (tree_leaf rows n v h)

    size_cut : (v : ℕ) → n ≤ v → v ≤ 2 * n - 2 → v - n + k < n → size_at v ≡ 1
    unfolding size_at cut
    size_cut v le h c = rw (tree_on (on v h) le, lt-leb n (v - n + k) c)

    size_split : (v : ℕ) → n ≤ v → v ≤ 2 * n - 2 → n ≤ v - n + k → size_at v ≡ size_at (left rows (v - n)) + size_at (right rows (v - n))
    unfolding size_at cut
    size_split v le h c =
        let L = tree_at rows n (left rows (v - n)) in
        let R = tree_at rows n (right rows (v - n)) in
        rw (tree_on (on v h) le, le-leb n (v - n + k) c)
        (length-append (cut n k 1 L (splits n k L)) (cut n k 1 R (splits n k R)) ∙ ap₂ ◌+◌ (deeper L (splits n k L) 1 0) (deeper R (splits n k R) 1 0))

    -- below a node that does not split nothing does
    single : (u : ℕ) → u ≤ 2 * n - 2 → u + k < n + n → size_at u ≡ 1
    single u h c =
        elim (dec_lt u n) [
          | yes lt ↦ size_leaf u lt
          | no ge ↦ size_cut u (omega arith) h (omega arith)
        ]

    size_adds : (v : ℕ) → n ≤ v → v ≤ 2 * n - 2 → size_at v + whole (v - n) ≡ size_at (left rows (v - n)) + size_at (right rows (v - n))
    unfolding whole
    size_adds v le h =
        let ll = left_falls (on v h) le in
        let rl = right_falls (on v h) le in
        elim (dec_lt (v - n + k) n) [
          | yes lt ↦ rw (lt-ltb (v - n + k) n lt)
              (omega (arith, size_cut v le h lt, single (left rows (v - n)) (omega arith) (omega arith), single (right rows (v - n)) (omega arith) (omega arith)))
          | no ge ↦ rw (le-ltb (v - n + k) n (omega arith)) (omega (arith, size_split v le h (omega arith)))
        ]

    wholes : (m : ℕ) → upto whole m + (m - (n - k)) ≡ m
    unfolding upto whole
    wholes zero = omega arith
    wholes (suc m) =
        elim (dec_lt (m + k) n) [
          | yes lt ↦ rw (lt-ltb (m + k) n lt) (omega (arith, wholes m))
          | no ge ↦ rw (le-ltb (m + k) n (omega arith)) (omega (arith, wholes m))
        ]

    pub number : length (clusters rows n k) ≡ k
    unfolding size_at
    number =
        let r : size_at (2 * n - 2) + upto whole (n - 1) ≡ upto size_at n = root size_at whole size_adds in
        omega (arith, r, upto_ones size_at n size_leaf, wholes (n - 1))
