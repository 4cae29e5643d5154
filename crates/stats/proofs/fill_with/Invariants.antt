-- What the loop of `stats::fill_with` keeps true: c entries are written. Assumes nothing.
use Prim.Native.Nat.{ℕ, ◌<◌}
use mathlib.Core.Path.{◌≡◌}
use lib.Ieee.{Float}
use Rattle.lent.specs.Grid.{tab, over}
use Rattle.stats.proofs.fill_with.Given as goal

abbrev pub invariant-loop-c : goal.invariant-loop-c
invariant-loop-c g l =
    (h : ℕ → Float) → ((c : ℕ) (v : Float) → c < l.w → goal.F-post g l.f c v → v ≡ h c) → l.out ≡ over (tab l.c h) l.initial.out
