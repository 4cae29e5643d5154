-- What the loop of `fractions::put_ranks` keeps true. Assumes nothing.
use mathlib.Core.Path.{◌≡◌}
use lib.ListN.{length}
use Rattle.lent.specs.Grid.{tab, over}
use Rattle.fractions.specs.Fractions.{rank_of}
use Rattle.fractions.specs.Inner.{value_at}
use Rattle.fractions.proofs.put_ranks.Given as goal

abbrev pub invariant-loop-i : goal.invariant-loop-i
invariant-loop-i l = (length l.ranks ≡ length l.initial.ranks) × (l.ranks ≡ over (tab l.i (rank_of (value_at l.left) (length l.left))) l.initial.ranks)
