-- The steps of the passes over the rows, in the shape of what the code asks.
--     size_leaf, size_row, size_few      a node's size from its children's
--     sizes_add, sizes_fit, measured     the pass upwards
--     entries_in, left_kept, right_kept  what a row of the pass downwards reads and writes is there
--     placing_start, placing_step, placing_end, placing_fits     its first places
--     sinking_start, sinking_step, sinking_end, sinking_fits     its depths
-- Assumes nothing.
use mathlib.Core.Path.{◌≡◌, sym, ap, subst, ◌∙◌}
use mathlib.Core.List.{List}
use Prim.Native.Nat.{ℕ, ◌+◌, ◌-◌, ◌*◌, ◌≤◌, ◌<◌}
use native.Mathlib.Omega.{arith}
use lib.ListN.{length, get_or, set, length-set}
use Rattle.lent.specs.Grid.{tab, over}
use Rattle.lent.proofs.Laws.{length_tab, get_d_tab, get_d_over, length_over}
use Rattle.tree.specs.Tree.{left, right, leaves_of}
use Rattle.tree.proofs.Rows.{IsTree, is_tree_lem}
use Rattle.tree.proofs.Walk.{leaves_leaf}
use Rattle.tree.proofs.Order.{leaves_few}
use Rattle.branches.specs.Branch.{first_of, size_of, depth_of}
use Rattle.branches.specs.Inner.{Rooted, Measured, Emptied}
use Rattle.branches.proofs.Parts.{size_is, fork_size, first_is, depth_is}
use Rattle.branches.proofs.Descent.{left_below, right_below, Descent, descent_start, descent_step, descent_end}

-- ---- the rows

module _ {rows : List ℕ} {n : ℕ} (p : Rooted rows n) where
  t : IsTree rows n
  t = is_tree_lem rows n p.tree

  pub row_length : length rows ≡ 2 * (n - 1)
  row_length = t.size

  pub left_low : (k : ℕ) → k < n - 1 → left rows k < n + k
  left_low = left_below p.some t

  pub right_low : (k : ℕ) → k < n - 1 → right rows k < n + k
  right_low = right_below p.some t

  -- ---- the sizes

  pub size_leaf : (v : ℕ) → v < n → 1 ≡ size_of rows n v
  size_leaf v h =
      let some : 1 ≤ n = p.some in
      sym (size_is rows n some p.tree v (omega arith) ∙ ap length (leaves_leaf rows n v h))

  pub size_row : (k : ℕ) → k < n - 1 → size_of rows n (left rows k) + size_of rows n (right rows k) ≡ size_of rows n (n + k)
  size_row k h =
      let some : 1 ≤ n = p.some in
      let same : n + k - n ≡ k = omega arith in
      let sum : length (leaves_of rows n (n + k)) ≡ length (leaves_of rows n (left rows k)) + length (leaves_of rows n (right rows k)) = rw same at (fork_size rows n some p.tree (n + k) (omega arith) (omega arith)) in
      omega (arith, size_is rows n some p.tree (n + k) (omega arith), size_is rows n some p.tree (left rows k) (omega (arith, left_low k h)), size_is rows n some p.tree (right rows k) (omega (arith, right_low k h)))

  pub size_few : (v : ℕ) → v ≤ 2 * n - 2 → size_of rows n v ≤ n
  size_few v h = omega (arith, size_is rows n p.some p.tree v h, leaves_few rows n p.tree p.some v h)

-- ---- one node's size from its children's

module _ {rows : List ℕ} {n v : ℕ} {sizes : List ℕ} (m : Measured rows n v sizes) (ge : n ≤ v) (lt : v < 2 * n - 1) where
  node_left : left rows (v - n) < v
  node_left = omega (arith, left_low m.rooted (v - n) (omega arith))

  node_right : right rows (v - n) < v
  node_right = omega (arith, right_low m.rooted (v - n) (omega arith))

  pub row_read : 2 * (v - n) + 1 < length rows
  row_read = omega (arith, row_length m.rooted, m.rooted.some)

  pub left_sized : left rows (v - n) < length sizes
  left_sized = omega (arith, node_left, m.room)

  pub right_sized : right rows (v - n) < length sizes
  right_sized = omega (arith, node_right, m.room)

  pub sizes_add : get_or sizes (left rows (v - n)) 0 + get_or sizes (right rows (v - n)) 0 ≡ size_of rows n v
  sizes_add =
      let same : n + (v - n) ≡ v = omega arith in
      let row : size_of rows n (left rows (v - n)) + size_of rows n (right rows (v - n)) ≡ size_of rows n v = rw same at (size_row m.rooted (v - n) (omega arith)) in
      omega (arith, m.each (left rows (v - n)) node_left, m.each (right rows (v - n)) node_right)

  pub sizes_fit : get_or sizes (left rows (v - n)) 0 + get_or sizes (right rows (v - n)) 0 ≤ n
  sizes_fit = omega (arith, sizes_add, size_few m.rooted v (omega arith))

-- ---- the sizes of the nodes below v stand

pub measured : {rows : List ℕ} {n : ℕ} (p : Rooted rows n) (v : ℕ) (sizes before : List ℕ) → sizes ≡ over (tab v (size_of rows n)) before → v ≤ 2 * n - 1 → 2 * n - 1 ≤ length before → Measured rows n v sizes
measured {rows} {n} p v sizes before e le wide = record {
  rooted = p;
  room = omega (arith, ap length e, length_over (tab v (size_of rows n)) before (omega (arith, length_tab v (size_of rows n))));
  each = λ u lt. ap (λ (l : List ℕ). get_or l u 0) e ∙ get_d_over (tab v (size_of rows n)) before u 0 (omega (arith, length_tab v (size_of rows n))) ∙ get_d_tab v (size_of rows n) u 0 lt;
}

-- ---- a pass down: the row's entries and its children's places are there

module _ {rows : List ℕ} {n : ℕ} {g h : ℕ → ℕ → ℕ} {B : ℕ → ℕ} {M room k : ℕ} {x : List ℕ} (p : Rooted rows n) (s : Descent rows n g h B M room k x) (wide : 2 * n - 1 ≤ room) (pos : 0 < k) where
  near : k - 1 < n - 1
  near = omega (arith, s.few)

  pub entries_in : 2 * (k - 1) + 1 < length rows
  entries_in = omega (arith, near, row_length p)

  pub left_within : (l : ℕ) → 2 * n - 1 ≤ l → left rows (k - 1) < l
  left_within l le = omega (arith, near, left_low p (k - 1) near)

  pub right_within : (l : ℕ) → 2 * n - 1 ≤ l → right rows (k - 1) < l
  right_within l le = omega (arith, near, right_low p (k - 1) near)

  pub left_kept : left rows (k - 1) < length x
  left_kept = left_within (length x) (omega (arith, s.same))

  pub right_kept : (w : ℕ) → right rows (k - 1) < length (set x (left rows (k - 1)) w)
  right_kept w = right_within (length (set x (left rows (k - 1)) w)) (omega (arith, s.same, length-set x (left rows (k - 1)) w))

-- ---- first places

abbrev pub Placing : List ℕ → ℕ → ℕ → ℕ → List ℕ → Type 0
Placing rows n room k x = Descent rows n (λ j y. y) (λ j y. y + size_of rows n (left rows j)) (size_of rows n) n room k x

module _ {rows : List ℕ} {n : ℕ} {sizes before : List ℕ} (m : Measured rows n (2 * n - 1) sizes) (b : Emptied n before) where
  some : 1 ≤ n
  some = m.rooted.some

  pub placing_start : Placing rows n (length before) (n - 1) before
  placing_start =
      subst (λ (l : List ℕ). Placing rows n (length before) (n - 1) l) (sym b.clear)
      (descent_start some (t m.rooted) (length before) (size_few m.rooted))

  module _ {k : ℕ} {x : List ℕ} (s : Placing rows n (length before) k x) (pos : 0 < k) where
    close : k - 1 < n - 1
    close = omega (arith, s.few)

    left_size : get_or sizes (left rows (k - 1)) 0 ≡ size_of rows n (left rows (k - 1))
    left_size = m.each (left rows (k - 1)) (omega (arith, close, left_low m.rooted (k - 1) close))

    pub placing_fits : get_or x (n + (k - 1)) 0 + get_or sizes (left rows (k - 1)) 0 ≤ n
    placing_fits =
        let few : k ≤ n - 1 = s.few in
        omega (arith, left_size, s.fits (n + (k - 1)) (omega arith), size_row m.rooted (k - 1) close)

    pub placing_step : Placing rows n (length before) (k - 1) (set (set x (left rows (k - 1)) (get_or x (n + (k - 1)) 0)) (right rows (k - 1)) (get_or x (n + (k - 1)) 0 + get_or sizes (left rows (k - 1)) 0))
    placing_step =
        rw left_size
        (descent_step some (t m.rooted) (length before) k x
        (λ y. omega (arith, size_row m.rooted (k - 1) close))
        (λ y. omega (arith, size_row m.rooted (k - 1) close))
        b.room pos s)

  pub placing_end : {k : ℕ} {x : List ℕ} → Placing rows n (length before) k x → k ≤ 0 → x ≡ over (tab (2 * n - 1) (first_of rows n)) before
  placing_end {k} {x} s h =
      let z : k ≡ 0 = omega arith in
      let e : Placing rows n (length before) 0 x = subst (λ (j : ℕ). Placing rows n (length before) j x) z s in
      let tree = m.rooted.tree in
      let few : (j : ℕ) → j < n - 1 → left rows j ≤ 2 * n - 2 = λ j lt. omega (arith, left_low m.rooted j lt) in
      descent_end some (t m.rooted) (length before) (first_of rows n) x b.room e
      (first_is rows n some tree (λ v. get_or x v 0) e.root
      (λ j lt. e.lefts j (omega arith) lt)
      (λ j lt. e.rights j (omega arith) lt ∙ ap (λ (a : ℕ). get_or x (n + j) 0 + a) (size_is rows n some tree (left rows j) (few j lt))))
      ∙ ap (over (tab (2 * n - 1) (first_of rows n))) (sym b.clear)

-- ---- depths

abbrev pub Sinking : List ℕ → ℕ → ℕ → ℕ → List ℕ → Type 0
Sinking rows n room k x = Descent rows n (λ j y. y + 1) (λ j y. y + 1) (λ v. v) (2 * n - 2) room k x

module _ {rows : List ℕ} {n : ℕ} {before : List ℕ} (p : Rooted rows n) (b : Emptied n before) where
  pub sinking_start : Sinking rows n (length before) (n - 1) before
  sinking_start =
      subst (λ (l : List ℕ). Sinking rows n (length before) (n - 1) l) (sym b.clear)
      (descent_start p.some (t p) (length before) (λ v h. h))

  module _ {k : ℕ} {x : List ℕ} (s : Sinking rows n (length before) k x) (pos : 0 < k) where
    pub sinking_fits : get_or x (n + (k - 1)) 0 + 1 ≤ length before
    sinking_fits =
        let few : k ≤ n - 1 = s.few in
        omega (arith, s.fits (n + (k - 1)) (omega arith), b.room, p.some)

    pub sinking_step : Sinking rows n (length before) (k - 1) (set (set x (left rows (k - 1)) (get_or x (n + (k - 1)) 0 + 1)) (right rows (k - 1)) (get_or x (n + (k - 1)) 0 + 1))
    sinking_step =
        let few : k ≤ n - 1 = s.few in
        descent_step p.some (t p) (length before) k x
        (λ y. omega (arith, left_low p (k - 1) (omega arith)))
        (λ y. omega (arith, right_low p (k - 1) (omega arith)))
        b.room pos s

  pub sinking_end : {k : ℕ} {x : List ℕ} → Sinking rows n (length before) k x → k ≤ 0 → x ≡ over (tab (2 * n - 1) (depth_of rows n)) before
  sinking_end {k} {x} s h =
      let z : k ≡ 0 = omega arith in
      let e : Sinking rows n (length before) 0 x = subst (λ (j : ℕ). Sinking rows n (length before) j x) z s in
      descent_end p.some (t p) (length before) (depth_of rows n) x b.room e
      (depth_is rows n p.some p.tree (λ v. get_or x v 0) e.root
      (λ j lt. e.lefts j (omega arith) lt)
      (λ j lt. e.rights j (omega arith) lt))
      ∙ ap (over (tab (2 * n - 1) (depth_of rows n))) (sym b.clear)
