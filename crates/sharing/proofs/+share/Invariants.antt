-- What falls at each call of `sharing::share` within itself. Assumes nothing.
use Rattle.sharing.proofs.+share.Given as goal

abbrev pub decreases-share : goal.decreases-share
decreases-share l = l.node.0
