-- The summary, row by row, and what a sheet of subtotals rests on.
--     first_left, first_right, depth_left, depth_right     a row's children from its node
--     first_root, depth_root, lines_are      the root's numbers, and that each line of a sheet has its own node's
--     first_fits         a node's part lies within the leaf order
--     depth_few          fewer than n nodes are above a node
--     members_done, members_are     the lookup, given the lists that `summarize` leaves and the order that `quasi_diagonalization` leaves, answers every node's leaves
--     filled_at, looked_up          an entry of such a list, and the lookup in two of them
--     part_subtotal, total_is       a branch's subtotal is the sum of its two children's, and the root's is the total
--     branches_count     the sheet has 2n − 1 lines
-- Assumes nothing.
use mathlib.Core.Path.{◌≡◌, refl, sym, ap, subst, ◌∙◌}
use mathlib.Core.List.{List, [], ◌∷◌, ◌++◌}
use Prim.Native.Nat.{ℕ, zero, suc, ◌+◌, ◌-◌, ◌*◌, ◌≤◌, ◌<◌}
use native.Mathlib.Nat.{le_refl}
use native.Mathlib.Omega.{arith}
use lib.ListN.{length, get_or, take, drop, set, length-drop, length-append, get_or-append}
use lib.Seq.{take-append-le, drop-append-le}
use Rattle.lent.specs.Count.{over_all}
use Rattle.lent.specs.Grid.{tab, noughts}
use Rattle.lent.specs.Lent.{laid}
use Rattle.lent.proofs.Counting.{over_all_places}
use Rattle.lent.proofs.Laws.{length_tab, get_d_tab}
use Rattle.tree.specs.Tree.{Tree, leaf, fork, left, right, leaves, leaves_of, tree_at}
use Rattle.tree.specs.Order.{order_laid}
use Rattle.tree.specs.Inner.{OnTree}
use Rattle.tree.proofs.Rows.{IsTree, is_tree_lem}
use Rattle.tree.proofs.Tree.{node_ind, on_left, on_right}
use Rattle.tree.proofs.Walk.{leaves_leaf}
use Rattle.tree.proofs.Order.{order_size}
use Rattle.tree.proofs.Answer.{order_laid_lem}
use Rattle.branches.specs.Branch.{Branch, walk, branches, first_of, size_of, depth_of, members_of, subtotal}
use Rattle.branches.specs.Inner.{Rooted}
use Rattle.branches.specs.Summary.{summary_outcome, summary_laid, members_outcome, part_at, part_of}
use Rattle.branches.proofs.Walk.{OnEach, walk_each}
use Rattle.branches.proofs.Parts.{found, fork_size, size_is, part_is, first_is, depth_is, subtotal_fork, subtotal_all}
use Rattle.branches.proofs.Descent.{descent_start, descent_step}
use Rattle.branches.proofs.Passes.{Placing, Sinking, left_low, right_low, size_row, size_few}
use Rattle.branches.proofs.Answer.{Within, within_passes, summary_passes}
use Rattle.std.specs.Prelude.{Ok}
use Rattle.refusal.specs.Table.{Outcome}

module _ {rows : List ℕ} {n : ℕ} (p : Rooted rows n) where
  some : 1 ≤ n
  some = p.some

  t : IsTree rows n
  t = is_tree_lem rows n p.tree

  -- ---- row by row: a list that the pass leaves has the places, and a list that the other leaves the depths

  record Placed (k : ℕ) : Type 0 where
    pub list : List ℕ
    pub down : Placing rows n (2 * n - 1) k list

  placed : (d : ℕ) → d ≤ n - 1 → Placed (n - 1 - d)
  placed zero h = let same : n - 1 ≡ n - 1 - 0 = omega arith in subst Placed same (record { list = noughts (2 * n - 1); down = descent_start some t (2 * n - 1) (size_few p) })
  placed (suc d) h =
      let s = placed d (omega arith) in
      let k = n - 1 - d in
      let same : k - 1 ≡ n - 1 - suc d = omega arith in
      subst Placed same (record {
        list = set (set s.list (left rows (k - 1)) (get_or s.list (n + (k - 1)) 0)) (right rows (k - 1)) (get_or s.list (n + (k - 1)) 0 + size_of rows n (left rows (k - 1)));
        down = descent_step some t (2 * n - 1) k s.list
            (λ y. omega (arith, size_row p (k - 1) (omega arith)))
            (λ y. omega (arith, size_row p (k - 1) (omega arith)))
            (omega arith) (omega arith) s.down;
      })

  all_placed : Placed 0
  all_placed = let same : n - 1 - (n - 1) ≡ 0 = omega arith in subst Placed same (placed (n - 1) (omega arith))

  left_node : (k : ℕ) → k < n - 1 → left rows k ≤ 2 * n - 2
  left_node k h = omega (arith, left_low p k h)

  right_node : (k : ℕ) → k < n - 1 → right rows k ≤ 2 * n - 2
  right_node k h = omega (arith, right_low p k h)

  placed_at : (v : ℕ) → v ≤ 2 * n - 2 → first_of rows n v ≡ get_or all_placed.list v 0
  placed_at =
      let s = all_placed.down in
      first_is rows n some p.tree (λ v. get_or all_placed.list v 0) s.root
      (λ j lt. s.lefts j (omega arith) lt)
      (λ j lt. s.rights j (omega arith) lt ∙ ap (λ (a : ℕ). get_or all_placed.list (n + j) 0 + a) (size_is rows n some p.tree (left rows j) (left_node j lt)))

  pub first_left : (k : ℕ) → k < n - 1 → first_of rows n (left rows k) ≡ first_of rows n (n + k)
  first_left k h = placed_at (left rows k) (left_node k h) ∙ all_placed.down.lefts k (omega arith) h ∙ sym (placed_at (n + k) (omega arith))

  pub first_right : (k : ℕ) → k < n - 1 → first_of rows n (right rows k) ≡ first_of rows n (n + k) + size_of rows n (left rows k)
  first_right k h =
      placed_at (right rows k) (right_node k h) ∙ all_placed.down.rights k (omega arith) h
      ∙ ap (λ (a : ℕ). a + size_of rows n (left rows k)) (sym (placed_at (n + k) (omega arith)))

  record Sunk (k : ℕ) : Type 0 where
    pub list : List ℕ
    pub down : Sinking rows n (2 * n - 1) k list

  sunk : (d : ℕ) → d ≤ n - 1 → Sunk (n - 1 - d)
  sunk zero h = let same : n - 1 ≡ n - 1 - 0 = omega arith in subst Sunk same (record { list = noughts (2 * n - 1); down = descent_start some t (2 * n - 1) (λ v le. le) })
  sunk (suc d) h =
      let s = sunk d (omega arith) in
      let k = n - 1 - d in
      let same : k - 1 ≡ n - 1 - suc d = omega arith in
      subst Sunk same (record {
        list = set (set s.list (left rows (k - 1)) (get_or s.list (n + (k - 1)) 0 + 1)) (right rows (k - 1)) (get_or s.list (n + (k - 1)) 0 + 1);
        down = descent_step some t (2 * n - 1) k s.list
            (λ y. omega (arith, left_low p (k - 1) (omega arith)))
            (λ y. omega (arith, right_low p (k - 1) (omega arith)))
            (omega arith) (omega arith) s.down;
      })

  all_sunk : Sunk 0
  all_sunk = let same : n - 1 - (n - 1) ≡ 0 = omega arith in subst Sunk same (sunk (n - 1) (omega arith))

  sunk_at : (v : ℕ) → v ≤ 2 * n - 2 → depth_of rows n v ≡ get_or all_sunk.list v 0
  sunk_at =
      let s = all_sunk.down in
      depth_is rows n some p.tree (λ v. get_or all_sunk.list v 0) s.root
      (λ j lt. s.lefts j (omega arith) lt) (λ j lt. s.rights j (omega arith) lt)

  pub depth_left : (k : ℕ) → k < n - 1 → depth_of rows n (left rows k) ≡ depth_of rows n (n + k) + 1
  depth_left k h = omega (arith, sunk_at (left rows k) (left_node k h), all_sunk.down.lefts k (omega arith) h, sunk_at (n + k) (omega arith))

  pub depth_right : (k : ℕ) → k < n - 1 → depth_of rows n (right rows k) ≡ depth_of rows n (n + k) + 1
  depth_right k h = omega (arith, sunk_at (right rows k) (right_node k h), all_sunk.down.rights k (omega arith) h, sunk_at (n + k) (omega arith))

  pub first_root : first_of rows n (2 * n - 2) ≡ 0
  first_root = placed_at (2 * n - 2) (le_refl (2 * n - 2)) ∙ all_placed.down.root

  pub depth_root : depth_of rows n (2 * n - 2) ≡ 0
  depth_root = sunk_at (2 * n - 2) (le_refl (2 * n - 2)) ∙ all_sunk.down.root

  -- each line of a sheet has its own node's numbers, so that a sheet can be written from the summary
  pub record OwnNumbers (b : Branch) : Type 0 where
    pub node : b.node ≤ 2 * n - 2
    pub first : b.first ≡ first_of rows n b.node
    pub size : b.size ≡ size_of rows n b.node
    pub depth : b.depth ≡ depth_of rows n b.node

  abbrev Known : ℕ → ℕ → ℕ → Type 0
  Known v a d = (v ≤ 2 * n - 2) × (a ≡ first_of rows n v) × (d ≡ depth_of rows n v)

  to_left : (v a d : ℕ) → n ≤ v → v ≤ 2 * n - 2 → Known v a d → Known (left rows (v - n)) a (suc d)
  to_left v a d le h q =
      let k = v - n in
      let low : k < n - 1 = omega arith in
      let same : n + k ≡ v = omega arith in
      let f : first_of rows n (left rows k) ≡ first_of rows n v = first_left k low ∙ ap (first_of rows n) same in
      let g : depth_of rows n (left rows k) ≡ depth_of rows n v + 1 = depth_left k low ∙ ap (λ (u : ℕ). depth_of rows n u + 1) same in
      (left_node k low, q.1 ∙ sym f, omega (arith, q.2))

  to_right : (v a d : ℕ) → n ≤ v → v ≤ 2 * n - 2 → Known v a d → Known (right rows (v - n)) (a + length (leaves_of rows n (left rows (v - n)))) (suc d)
  to_right v a d le h q =
      let k = v - n in
      let low : k < n - 1 = omega arith in
      let same : n + k ≡ v = omega arith in
      let f : first_of rows n (right rows k) ≡ first_of rows n v + size_of rows n (left rows k) = first_right k low ∙ ap (λ (u : ℕ). first_of rows n u + size_of rows n (left rows k)) same in
      let g : depth_of rows n (right rows k) ≡ depth_of rows n v + 1 = depth_right k low ∙ ap (λ (u : ℕ). depth_of rows n u + 1) same in
      let s : size_of rows n (left rows k) ≡ length (leaves_of rows n (left rows k)) = size_is rows n some p.tree (left rows k) (left_node k low) in
      (right_node k low, omega (arith, q.1), omega (arith, q.2))

  lines : (bs : List Branch) → OnEach (λ b. Known b.node b.first b.depth × (b.size ≡ length (leaves_of rows n b.node))) bs → OnEach OwnNumbers bs
  lines [] a = tt
  lines (b ∷ bs) a =
      let h : Known b.node b.first b.depth × (b.size ≡ length (leaves_of rows n b.node)) = a.0 in
      (record { node = h.0.0; first = h.0.1; size = h.1 ∙ sym (size_is rows n some p.tree b.node h.0.0); depth = h.0.2 }, lines bs a.1)

  pub lines_are : OnEach OwnNumbers (branches rows n)
  unfolding branches
  lines_are =
      lines (walk n 0 0 (tree_at rows n (2 * n - 2)))
      (walk_each rows n some t Known to_left to_right (2 * n - 2) (le_refl (2 * n - 2)) 0 0 (le_refl (2 * n - 2), sym first_root, sym depth_root))

  -- ---- the lookup

  pub first_fits : (v : ℕ) → v ≤ 2 * n - 2 → first_of rows n v + size_of rows n v ≤ n
  first_fits v h =
      let q = found rows n some p.tree (λ u a d. a + length (leaves_of rows n u) ≤ n)
      (λ u a d le k e. omega (arith, fork_size rows n some p.tree u le k))
      (λ u a d le k e. omega (arith, fork_size rows n some p.tree u le k))
      (omega (arith, order_size rows n p.tree some)) v h in
      omega (arith, q.0, q.1)

  leaves_some : (v : ℕ) → v ≤ 2 * n - 2 → 1 ≤ length (leaves_of rows n v)
  leaves_some = node_ind some t (λ v. 1 ≤ length (leaves_of rows n v))
      (λ v lt. rw (leaves_leaf rows n v lt) (le_refl 1))
      (λ v le h a b. omega (arith, fork_size rows n some p.tree v le h))

  -- each node above leaves at least one leaf aside
  pub depth_few : (v : ℕ) → v ≤ 2 * n - 2 → depth_of rows n v ≤ n - 1
  depth_few v h =
      let on : (u : ℕ) → u ≤ 2 * n - 2 → OnTree rows n u = λ u k. record { some = some; tree = p.tree; node = k } in
      let q = found rows n some p.tree (λ u a d. d + length (leaves_of rows n u) ≤ n)
      (λ u a d le k e. omega (arith, fork_size rows n some p.tree u le k, leaves_some (right rows (u - n)) (on_right (on u k) le).node))
      (λ u a d le k e. omega (arith, fork_size rows n some p.tree u le k, leaves_some (left rows (u - n)) (on_left (on u k) le).node))
      (omega (arith, order_size rows n p.tree some)) v h in
      omega (arith, q.0, leaves_some v h)

  entry_at : (f : ℕ → ℕ) (room v : ℕ) → v ≤ 2 * n - 2 → (v < length (summary_laid f (Ok tt) n room)) × (get_or (summary_laid f (Ok tt) n room) v 0 ≡ f v)
  unfolding summary_laid laid
  entry_at f room v h =
      let w = 2 * n - 1 in
      let size : length (tab w f) ≡ w = length_tab w f in
      let rest = noughts (room - length (tab w f)) in
      (omega (arith, length-append (tab w f) rest), get_or-append (tab w f) rest 0 v (omega arith) ∙ get_d_tab w f v 0 (omega arith))

  -- the order has the root's leaves, and after them what it likes
  module _ (most : n ≤ 64) (rest : List ℕ) (a b v : ℕ) (h : v ≤ 2 * n - 2) where
    inside : Within (leaves_of rows n (2 * n - 2) ++ rest) (summary_laid (first_of rows n) (Ok tt) n a) (summary_laid (size_of rows n) (Ok tt) n b) n v
    inside =
        let x = entry_at (first_of rows n) a v h in
        let y = entry_at (size_of rows n) b v h in
        record {
          most = most;
          some = some;
          node = h;
          begun = x.0;
          sized = y.0;
          fits = omega (arith, x.1, y.1, first_fits v h, order_size rows n p.tree some, length-append (leaves_of rows n (2 * n - 2)) rest);
        }

    pub members_done : members_outcome (leaves_of rows n (2 * n - 2) ++ rest) (summary_laid (first_of rows n) (Ok tt) n a) (summary_laid (size_of rows n) (Ok tt) n b) n v ≡ Ok tt
    members_done = within_passes inside

    pub members_are : part_of (leaves_of rows n (2 * n - 2) ++ rest) (summary_laid (first_of rows n) (Ok tt) n a) (summary_laid (size_of rows n) (Ok tt) n b) n v ≡ leaves_of rows n v
    unfolding part_of part_at members_of
    members_are =
        let all = leaves_of rows n (2 * n - 2) in
        let f = first_of rows n v in
        let s = size_of rows n v in
        let fits : f + s ≤ length all = omega (arith, first_fits v h, order_size rows n p.tree some) in
        rw (members_done, (entry_at (first_of rows n) a v h).1, (entry_at (size_of rows n) b v h).1)
        (ap (take s) (drop-append-le f all rest (omega arith))
        ∙ take-append-le s (drop f all) rest (omega (arith, length-drop f all))
        ∙ part_is rows n some p.tree v h)

  -- ---- the lists of 127 that `summarize` leaves, beside the order of 64 that `quasi_diagonalization` leaves

  module _ (most : n ≤ 64) (said : Outcome) (e : said ≡ summary_outcome rows n 127 127 127) where
    filled : (f : ℕ → ℕ) (list : List ℕ) → list ≡ summary_laid f said n 127 → list ≡ summary_laid f (Ok tt) n 127
    filled f list l = l ∙ ap (λ (o : Outcome). summary_laid f o n 127) (e ∙ summary_passes (record { most = most; one = omega arith; two = omega arith; three = omega arith; rooted = p }))

    pub filled_at : (f : ℕ → ℕ) (list : List ℕ) → list ≡ summary_laid f said n 127 → (v : ℕ) → v ≤ 2 * n - 2 → (v < length list) × (get_or list v 0 ≡ f v)
    filled_at f list l v h = rw (filled f list l) (entry_at f 127 v h)

    pub looked_up : (order firsts sizes : List ℕ) → order ≡ order_laid rows n (2 * n - 2) 64 → firsts ≡ summary_laid (first_of rows n) said n 127 → sizes ≡ summary_laid (size_of rows n) said n 127
        → (v : ℕ) → v ≤ 2 * n - 2 → part_of order firsts sizes n v ≡ leaves_of rows n v
    looked_up order firsts sizes o f s v h =
        let all = leaves_of rows n (2 * n - 2) in
        let is : order ≡ all ++ noughts (64 - length all) = o ∙ order_laid_lem (record { most = most; roomy = most; on = record { some = some; tree = p.tree; node = le_refl (2 * n - 2) } }) in
        rw (is, filled (first_of rows n) firsts f, filled (size_of rows n) sizes s) (members_are most (noughts (64 - length all)) 127 127 v h)

  -- ---- subtotals

  pub part_subtotal : (xs : List ℕ) (k : ℕ) → k < n - 1 → subtotal xs (members_of rows n (n + k)) ≡ subtotal xs (members_of rows n (left rows k)) + subtotal xs (members_of rows n (right rows k))
  part_subtotal xs k h =
      let same : n + k - n ≡ k = omega arith in
      let at : (v : ℕ) → v ≤ 2 * n - 2 → members_of rows n v ≡ leaves_of rows n v = part_is rows n some p.tree in
      let sum : subtotal xs (leaves_of rows n (n + k)) ≡ subtotal xs (leaves_of rows n (left rows k)) + subtotal xs (leaves_of rows n (right rows k)) = rw same at (subtotal_fork rows n some p.tree xs (n + k) (omega arith) (omega arith)) in
      rw (at (n + k) (omega arith), at (left rows k) (left_node k h), at (right rows k) (right_node k h)) sum

  pub total_is : (xs : List ℕ) → length xs ≡ n → subtotal xs (members_of rows n (2 * n - 2)) ≡ over_all (λ x. x) xs
  total_is xs e =
      ap (subtotal xs) (part_is rows n some p.tree (2 * n - 2) (omega arith)) ∙ subtotal_all rows n some p.tree xs
      ∙ sym (over_all_places xs n (λ a. get_or xs a 0) e (λ k lt. refl))

-- ---- the lines of a sheet

walk_count : (n place above : ℕ) (tree : Tree) → length (walk n place above tree) + 1 ≡ 2 * length (leaves tree)
unfolding walk leaves
walk_count n place above (leaf a) = refl
walk_count n place above (fork k l r) =
    omega (arith, walk_count n place (suc above) l, walk_count n (place + length (leaves l)) (suc above) r, length-append (leaves l) (leaves r), length-append (walk n place (suc above) l) (walk n (place + length (leaves l)) (suc above) r))

pub branches_count : {rows : List ℕ} {n : ℕ} → Rooted rows n → length (branches rows n) ≡ 2 * n - 1
unfolding branches
branches_count {rows} {n} p = omega (arith, walk_count n 0 0 (tree_at rows n (2 * n - 2)), order_size rows n p.tree p.some)
