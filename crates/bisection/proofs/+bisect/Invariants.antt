-- What falls at each call of `bisection::bisect` within itself. Assumes nothing.
use lib.ListN.{length}
use Rattle.bisection.proofs.+bisect.Given as goal

abbrev pub decreases-bisect : goal.decreases-bisect
decreases-bisect l = length l.part.now
