-- What the loop of `keys::fill` keeps true. Assumes nothing.
use mathlib.Core.Path.{◌≡◌}
use Rattle.lent.specs.Grid.{tab, over}
use Rattle.keys.specs.Keys.{key_byte}
use Rattle.keys.proofs.fill.Given as goal

abbrev pub invariant-loop-i : goal.invariant-loop-i
invariant-loop-i l = l.bytes ≡ over (tab l.i (key_byte l.key)) l.initial.bytes
