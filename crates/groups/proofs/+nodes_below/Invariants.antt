-- What falls at each call of `groups::nodes_below` within itself. Assumes nothing.
use Rattle.groups.proofs.+nodes_below.Given as goal

abbrev pub decreases-nodes_below : goal.decreases-nodes_below
decreases-nodes_below l = l.node.0
