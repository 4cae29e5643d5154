-- What falls at each call of `tree::leaves` within itself. Assumes nothing.
use Rattle.tree.proofs.+leaves.Given as goal

abbrev pub decreases-leaves : goal.decreases-leaves
decreases-leaves l = l.node.0
