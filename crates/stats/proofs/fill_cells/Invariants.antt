-- What the loops of `stats::fill_cells` keep true: i rows are written, and j cells of row i. Assumes nothing.
use Prim.Native.Nat.{ℕ, ◌<◌}
use mathlib.Core.Path.{◌≡◌}
use lib.Ieee.{Float}
use Rattle.lent.specs.Grid.{grid, over}
use Rattle.lent.specs.Inner.{part}
use Rattle.stats.proofs.fill_cells.Given as goal

abbrev pub invariant-loop-i : goal.invariant-loop-i
invariant-loop-i g l =
    (h : ℕ → ℕ → Float) → ((i : ℕ) (j : ℕ) (v : Float) → i < l.n → j < l.n → goal.F-post g l.f i j v → v ≡ h i j)
    → l.out ≡ over (grid l.i l.n h) l.initial.out

abbrev pub invariant-loop-j : goal.invariant-loop-j
invariant-loop-j g l =
    (h : ℕ → ℕ → Float) → ((i : ℕ) (j : ℕ) (v : Float) → i < l.n → j < l.n → goal.F-post g l.f i j v → v ≡ h i j)
    → over (grid l.i l.n h) l.initial.out ≡ l.initial.out → l.out ≡ over (part l.i l.j l.n h) l.initial.out
