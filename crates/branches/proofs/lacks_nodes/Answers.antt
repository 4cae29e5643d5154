-- `branches::lacks_nodes` meets its contract. Assumes nothing.
use Rattle.std.proofs.Common.{arith}
use Rattle.branches.proofs.Answer.{nodes_one, nodes_two, nodes_three}
use Rattle.branches.proofs.lacks_nodes.Goals as goal
use Rattle.branches.proofs.lacks_nodes.Goals.{then-a-nodes, else-a-nodes}

pub returns-then-b-nodes : goal.returns-then-b-nodes
returns-then-b-nodes c =
    elim c.if-a-nodes.branch [
      | then-a-nodes w ↦ cc (nodes_one c.args.n c.args.a c.args.b c.args.c (omega arith))
      | else-a-nodes w ↦ cc (nodes_two c.args.n c.args.a c.args.b c.args.c (omega arith) (omega arith))
    ]

pub returns-else-b-nodes : goal.returns-else-b-nodes
returns-else-b-nodes c = rw c.saturating_sub-nodes.ensures (nodes_three _ _ _ _ (omega arith) (omega arith))
