-- What the loop of `tree::each_below` keeps true. Assumes nothing.
use mathlib.Core.Path.{◌≡◌}
use lib.ListN.{drop}
use Rattle.tree.specs.Rows.{below}
use Rattle.tree.proofs.each_below.Given as goal

abbrev pub invariant-loop-i : goal.invariant-loop-i
invariant-loop-i l = below l.n 0 l.rows ≡ below l.n l.i (drop l.i l.rows)
