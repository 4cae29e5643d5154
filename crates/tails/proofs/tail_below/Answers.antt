-- `tails::tail_below` meets its contract. Assumes nothing.
use lib.Ieee.{le}
use Rattle.tails.proofs.Laws.{tail_start, tail_hit, tail_miss}
use Rattle.tails.proofs.tail_below.Goals as goal
use Rattle.tails.proofs.tail_below.Goals.{then-v-limit, else-v-limit}

pub loop-r-init : goal.loop-r-init
loop-r-init c = tail_start _ _

pub loop-r-preserved : goal.loop-r-preserved
loop-r-preserved c =
    elim c.if-v-limit.branch [
      | then-v-limit w ↦ tail_hit (λ x. le x c.args.limit) _ _ _ _ _ _ _ c.loop-r.invariant c.row_return-v.ensures w.if-v-limit.true w.sum-is w.count-is
      | else-v-limit w ↦ tail_miss (λ x. le x c.args.limit) _ _ _ _ _ _ _ c.loop-r.invariant c.row_return-v.ensures w.if-v-limit.false w.sum-is w.count-is
    ]
