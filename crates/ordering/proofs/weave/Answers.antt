-- `ordering::weave` meets its contract. Assumes nothing.
use Rattle.std.proofs.Common.{◌+◌, sym, ◌∙◌, arith}
use Rattle.ordering.proofs.Merging.{Woven, second_in, turn_second, turn_first, woven_end}
use Rattle.ordering.proofs.weave.Goals as goal
use Rattle.ordering.proofs.weave.Goals.{then-is_next, else-is_next}

pub bounds-xs-j : goal.bounds-xs-j
bounds-xs-j c =
    let h = second_in c.args.room.now c.args.xs.now c.loop-i.xs c.loop-i.i c.loop-i.j c.loop-i.k c.loop-i.invariant c.loop-i-test.true (sym c.if-is_next.true ∙ c.is_next.ensures) in
    h

-- whichever way the branch went, one entry more is in place
joined : (c : goal.Joined-is_next) → Woven c.args.room.now c.args.xs.now c.if-is_next.xs c.if-is_next.i c.if-is_next.j (c.loop-i.k + 1)
joined c =
    elim c.if-is_next.branch [
      | then-is_next w ↦ turn_second c.args.room.now c.args.xs.now c.loop-i.xs c.loop-i.i c.loop-i.j c.loop-i.k c.loop-i.invariant c.loop-i-test.true c.if-is_next.xs c.if-is_next.i c.if-is_next.j (sym w.if-is_next.true ∙ c.is_next.ensures) w.xs-is w.i-is w.j-is
      | else-is_next w ↦ turn_first c.args.room.now c.args.xs.now c.loop-i.xs c.loop-i.i c.loop-i.j c.loop-i.k c.loop-i.invariant c.loop-i-test.true c.if-is_next.xs c.if-is_next.i c.if-is_next.j (sym w.if-is_next.false ∙ c.is_next.ensures) w.xs-is w.i-is w.j-is
    ]

pub loop-i-smaller : goal.loop-i-smaller
loop-i-smaller c =
    let w = joined c in
    omega (arith, c.loop-i.invariant.long, c.loop-i.invariant.some, c.loop-i.invariant.within, c.loop-i.invariant.even, w.long, w.some, w.within, w.even)

pub loop-i-preserved : goal.loop-i-preserved
loop-i-preserved c = joined c

pub returns : goal.returns
returns c = woven_end _ _ _ _ _ _ c.loop-i.invariant c.loop-i-test.false
