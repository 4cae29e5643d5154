-- `branches::measure` meets its contract. The sizes of the nodes below v stand. Assumes nothing.
use Rattle.std.proofs.Common.{refl, arith}
use Rattle.lent.proofs.Fill.{tab_start, tab_step}
use Rattle.branches.proofs.Passes.{measured}
use Rattle.branches.proofs.measure.Goals as goal

pub loop-v-init : goal.loop-v-init
loop-v-init c = tab_start _ _

pub size_at-requires-clause-measured : goal.size_at-requires-clause-measured
size_at-requires-clause-measured c = measured c.requires.rooted _ _ _ c.loop-v.invariant (omega arith) c.requires.n_in_bounds

pub loop-v-preserved : goal.loop-v-preserved
loop-v-preserved c = tab_step _ _ _ _ _ _ refl c.loop-v.invariant c.size_at.ensures (omega arith)
