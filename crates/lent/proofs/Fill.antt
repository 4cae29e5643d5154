-- Laws in the shape of the needs that a loop over a lent buffer leaves, for `search filling`: each premise is a field of the invariant,
-- a test, or what a callee ensures, as it stands. Assumes nothing.
use Prim.Native.Nat.{ℕ, ◌+◌, ◌*◌, ◌<◌, ◌≤◌}
use mathlib.Core.Path.{◌≡◌, refl, sym, ap, ◌∙◌}
use mathlib.Core.List.{List}
use native.Mathlib.Nat.{le_antisymm}
use native.Mathlib.Omega.{arith}
use borrow.Author.Rules.{rules}
use lib.ListN.{length, set}
use Rattle.lent.specs.Grid.{tab, grid, over}
use Rattle.lent.specs.Inner.{part}
use Rattle.lent.proofs.Laws.{cell_in, cell_room, done_cell, rows_le, length_tab, length_grid, tab_more, over_push, over_over, part_none, part_full, part_push}
use Rattle.lent.proofs.Sums.{sum_start, sum_step, sum_end, on_start, on_step, on_end, sums_start, sums_step, sums_end, any_none, any_more, any_end, any_hit}

-- ---- a table: d is l with the first k entries written

module _ {A : Type 0} (f : ℕ → A) where
  pub tab_start : (d : List A) → d ≡ over (tab 0 f) d
  unfolding tab over
  tab_start d = refl

  pub tab_step : (d d' l : List A) (v : A) (k : ℕ) → d' ≡ set d k v → d ≡ over (tab k f) l → v ≡ f k → k < length l → d' ≡ over (tab (k + 1) f) l
  tab_step d d' l v k e' e h g = rw (e', e, h, tab_more) (over_push (tab k f) l k (f k) (length_tab k f) g)

  pub tab_end : (d l : List A) (k n : ℕ) → d ≡ over (tab k f) l → k ≤ n → n ≤ k → d ≡ over (tab n f) l
  tab_end d l k n e h g = e ∙ ap (λ (m : ℕ). over (tab m f) l) (le_antisymm h g)

-- ---- rows: d is l with the first n rows written

module _ {A : Type 0} (w : ℕ) (f : ℕ → ℕ → A) where
  pub rows_start : (d : List A) → d ≡ over (grid 0 w f) d
  unfolding grid over
  rows_start d = refl

  -- written again, they change nothing
  pub rows_keep : (d l : List A) (n m : ℕ) → d ≡ over (grid n w f) l → n ≤ m → m * w ≤ length l → over (grid n w f) d ≡ d
  rows_keep d l n m e h k =
      let g = grid n w f in
      let b = rows_le m w n h in
      let q = length_grid n w f in
      let o = over_over g g l (omega arith) (omega arith) in
      cc

  pub rows_step : (d d' l : List A) (n m : ℕ) → d' ≡ over (grid (n + 1) w f) d → d ≡ over (grid n w f) l → n < m → m * w ≤ length l → d' ≡ over (grid (n + 1) w f) l
  rows_step d d' l n m e' e h k =
      let b = rows_le m w n (omega arith) in
      let b' = rows_le (n + 1) w n (omega arith) in
      let q = length_grid n w f in
      let q' = length_grid (n + 1) w f in
      let o = over_over (grid n w f) (grid (n + 1) w f) l (omega arith) (omega arith) in
      cc

  pub rows_end : (d l : List A) (n m : ℕ) → d ≡ over (grid n w f) l → n ≤ m → m ≤ n → d ≡ over (grid m w f) l
  rows_end d l n m e h g = e ∙ ap (λ (k : ℕ). over (grid k w f) l) (le_antisymm h g)

  -- ---- cells: and the first j cells of row n

  pub cells_start : (d : List A) (n : ℕ) → over (grid n w f) d ≡ d → d ≡ over (part n 0 w f) d
  cells_start d n e = sym e ∙ ap (λ (p : List A). over p d) (sym (part_none n w f))

  pub cells_step : (d d' l : List A) (v : A) (n j m : ℕ) → d' ≡ set d (n * w + j) v → d ≡ over (part n j w f) l → v ≡ f n j → n < m → j < w → m * w ≤ length l
      → d' ≡ over (part n (j + 1) w f) l
  cells_step d d' l v n j m e' e h hn hj k =
      let p = part_push n j w f l (cell_room l m w n j k hn hj) in
      cc

  pub cells_end : (d l : List A) (n j : ℕ) → d ≡ over (part n j w f) l → j ≤ w → w ≤ j → d ≡ over (grid (n + 1) w f) l
  cells_end d l n j e h g = e ∙ ap (λ (k : ℕ). over (part n k w f) l) (le_antisymm h g) ∙ ap (λ (p : List A). over p l) (part_full n w f)

-- what a need is tried with: `search filling`
pub ruleset filling = (cell_in, cell_room, done_cell, sum_start, sum_step, sum_end, on_start, on_step, on_end, sums_start, sums_step, sums_end, any_none, any_more, any_end, any_hit, tab_start, tab_step, tab_end, rows_start, rows_keep, rows_step, rows_end, cells_start, cells_step, cells_end, rules)
