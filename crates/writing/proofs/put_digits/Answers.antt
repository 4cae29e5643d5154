-- `writing::put_digits` meets its contract: the digits from place i on are written, and `left` has the others. Assumes nothing.
use mathlib.Core.Path.{sym, ◌∙◌}
use native.Mathlib.Omega.{arith}
use borrow.Author.Tests.{ltb-true, ltb-false}
use Rattle.writing.proofs.Writing.{put_wrote}
use Rattle.writing.proofs.Digits.{digits_none, putting_start, putting_step, putting_end}
use Rattle.writing.proofs.put_digits.Goals as goal

pub returns-then-lacks_room : goal.returns-then-lacks_room
returns-then-lacks_room c = digits_none _ _ _ _ _ (ltb-true _ _ (sym c.lacks_room.ensures ∙ c.if-lacks_room.true))

pub loop-i-init : goal.loop-i-init
loop-i-init c = putting_start _ _ _ _ _ (ltb-false _ _ (sym c.lacks_room.ensures ∙ c.if-lacks_room.false))

pub overflow_add-out : goal.overflow_add-out
overflow_add-out c = omega (arith, c.loop-i.invariant.done.moved, c.loop-i.invariant.done.room)

pub bounds-out-at : goal.bounds-out-at
bounds-out-at c = omega (arith, c.loop-i.invariant.done.moved, c.loop-i.invariant.done.room, c.loop-i.invariant.done.same)

pub loop-i-preserved : goal.loop-i-preserved
loop-i-preserved c = putting_step _ c.loop-i.invariant c.loop-i-test.true c.digit_byte.ensures

pub returns : goal.returns
returns c = put_wrote (putting_end c.loop-i.invariant (omega arith))
