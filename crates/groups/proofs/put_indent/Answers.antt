-- `groups::put_indent` meets its contract. Assumes nothing.
use Rattle.std.proofs.Common.{arith}
use Rattle.groups.proofs.Lines.{indent_none, indent_put}
use Rattle.groups.proofs.put_indent.Goals as goal

pub loop-init : goal.loop-init
loop-init c = indent_none _ _ (omega (arith, c.requires))

pub loop-preserved : goal.loop-preserved
loop-preserved c = indent_put _ _ c.loop.invariant c.put_bytes-end.ensures c.loop-test.true c.requires
