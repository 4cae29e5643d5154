-- `groups::put_totals` meets its contract. Assumes nothing.
use Rattle.std.proofs.Common.{refl, ap, ◌∙◌, arith}
use Rattle.lent.proofs.Fill.{tab_start, tab_step}
use Rattle.branches.specs.Branch.{subtotal}
use Rattle.branches.specs.Summary.{part_of}
use Rattle.groups.proofs.put_totals.Goals as goal

pub loop-v-init : goal.loop-v-init
loop-v-init c = tab_start (λ u. subtotal c.args.parts.now (part_of c.args.order.now c.args.firsts.now c.args.sizes.now c.args.n u)) _

pub loop-v-preserved : goal.loop-v-preserved
loop-v-preserved c =
    tab_step _ _ _ _ _ _ refl c.loop-v.invariant (c.total.ensures ∙ ap (subtotal c.args.parts.now) c.members.ensures) (omega arith)
