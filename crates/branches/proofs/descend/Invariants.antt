-- What the loops of `branches::descend` keep true. Assumes nothing.
use lib.ListN.{length}
use Rattle.branches.proofs.Passes.{Placing, Sinking}
use Rattle.branches.proofs.descend.Given as goal

abbrev pub invariant-loop-k : goal.invariant-loop-k
invariant-loop-k l = Placing l.rows l.n (length l.initial.firsts) l.k l.firsts × Sinking l.rows l.n (length l.initial.depths) l.k l.depths
