-- What the loop of `millionths::fill` keeps true. Assumes nothing.
use Prim.Native.Nat.{ℕ, ◌+◌}
use mathlib.Core.Path.{◌≡◌}
use mathlib.Core.List.{List}
use lib.Dec.{ltb}
use lib.ListN.{length, get_or}
use Rattle.lent.specs.Count.{one}
use Rattle.lent.specs.Grid.{tab, over}
use Rattle.millionths.proofs.fill.Given as goal

abbrev pub served : List ℕ → List ℕ → ℕ → ℕ → ℕ
served wholes ranks missing i = get_or wholes i 0 + one (ltb (get_or ranks i 0) missing)

abbrev pub invariant-loop-i : goal.invariant-loop-i
invariant-loop-i l = (length l.out ≡ length l.initial.out) × (l.out ≡ over (tab l.i (served l.wholes l.ranks l.missing)) l.initial.out)
