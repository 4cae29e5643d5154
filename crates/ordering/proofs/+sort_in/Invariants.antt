-- What falls at each call of `ordering::sort_in` within itself. Assumes nothing.
use Rattle.std.proofs.Common.{length}
use Rattle.ordering.proofs.+sort_in.Given as goal

abbrev pub decreases-sort_in : goal.decreases-sort_in
decreases-sort_in l = length l.xs.now
