-- `slots::close_gap` meets its contract. The invariant: those of the first j entries that stay are written over the list. Assumes nothing.
use native.Mathlib.Omega.{arith}
use Rattle.slots.proofs.Gap.{gap_start, gap_goes, gap_stays, gap_end, gap_length}
use Rattle.slots.proofs.close_gap.Goals as goal
use Rattle.slots.proofs.close_gap.Goals.{then-s-y, else-s-y}

pub loop-j-init : goal.loop-j-init
loop-j-init c = gap_start _ _

pub bounds-slots-j : goal.bounds-slots-j
bounds-slots-j c =
    omega (arith, gap_length _ _ _ _ _ c.loop-j.invariant (omega arith))

pub bounds-slots-w : goal.bounds-slots-w
bounds-slots-w c =
    omega (arith, c.loop-j.invariant.low, gap_length _ _ _ _ _ c.loop-j.invariant (omega arith))

pub overflow_add-w : goal.overflow_add-w
overflow_add-w c = omega (arith, c.loop-j.invariant.low)

pub loop-j-preserved : goal.loop-j-preserved
loop-j-preserved c =
    elim c.if-s-y.branch [
      | then-s-y w ↦ rw (w.slots-is, w.w-is) (gap_stays c.args.slots.now c.args.y c.loop-j.j c.loop-j.slots c.loop-j.w (omega arith) c.loop-j.invariant w.if-s-y.true)
      | else-s-y w ↦ rw (w.slots-is, w.w-is) (gap_goes c.args.slots.now c.args.y c.loop-j.j c.loop-j.slots c.loop-j.w (omega arith) c.loop-j.invariant w.if-s-y.false)
    ]

pub shape_of-slots : goal.shape_of-slots
shape_of-slots c = gap_length _ _ _ _ _ c.loop-j.invariant (omega arith)

pub returns : goal.returns
returns c = gap_end c.args.slots.now c.args.y c.loop-j.j c.args.m c.loop-j.slots c.loop-j.w c.loop-j.invariant (omega arith)
