-- `ceilings::cut_total` meets its contract. Each part is at most 1,000,000, so that the sum fits. Assumes nothing.
use Prim.Native.Nat.{◌-◌}
use native.Mathlib.Omega.{arith}
use lib.ListN.{get_or}
use Rattle.fractions.proofs.Ranks.{count_start, count_more, count_end}
use Rattle.ceilings.specs.Ceilings.{kept_at, cut_total}
use Rattle.ceilings.proofs.cut_total.Goals as goal

pub loop-i-init : goal.loop-i-init
loop-i-init c =
    (count_start (λ k. get_or c.args.parts.now k 0 - kept_at c.args.parts.now c.args.ceilings.now k), omega arith)

pub overflow_add-cut : goal.overflow_add-cut
overflow_add-cut c =
    let p = c.requires.small c.loop-i.i (omega arith) in
    omega (arith, c.saturating_sub-cut.ensures, c.loop-i.invariant.1)

pub loop-i-preserved : goal.loop-i-preserved
unfolding kept_at
loop-i-preserved c =
    let p = c.requires.small c.loop-i.i (omega arith) in (
      count_more (λ k. get_or c.args.parts.now k 0 - kept_at c.args.parts.now c.args.ceilings.now k) c.loop-i.cut c.saturating_sub-cut.result c.loop-i.i c.loop-i.invariant.0 (omega (arith, c.saturating_sub-cut.ensures)),
      omega (arith, c.saturating_sub-cut.ensures, c.loop-i.invariant.1),
    )

pub returns : goal.returns
unfolding cut_total
returns c =
    count_end (λ k. get_or c.args.parts.now k 0 - kept_at c.args.parts.now c.args.ceilings.now k) c.loop-i.cut c.loop-i.i _ c.loop-i.invariant.0 (omega arith) (omega arith)
