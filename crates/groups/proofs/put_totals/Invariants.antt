-- What the loops of `groups::put_totals` keep true. Assumes nothing.
use Rattle.std.proofs.Common.{◌≡◌}
use Rattle.lent.specs.Grid.{tab, over}
use Rattle.branches.specs.Branch.{subtotal}
use Rattle.branches.specs.Summary.{part_of}
use Rattle.groups.proofs.put_totals.Given as goal

abbrev pub invariant-loop-v : goal.invariant-loop-v
invariant-loop-v l = l.out ≡ over (tab l.v (λ u. subtotal l.parts (part_of l.order l.firsts l.sizes l.n u))) l.initial.out
