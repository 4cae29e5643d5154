-- `writing::put_bytes` meets its contract. Assumes nothing.
use mathlib.Core.Path.{refl, sym, ◌∙◌}
use native.Mathlib.Omega.{arith}
use borrow.Author.Tests.{ltb-true, ltb-false}
use lib.ListN.{length-set}
use lib.Seq.{paste-zero}
use Rattle.writing.proofs.Writing.{copy_more, copy_end, put_wrote, put_none}
use Rattle.writing.proofs.put_bytes.Goals as goal

pub returns-then-lacks_room : goal.returns-then-lacks_room
returns-then-lacks_room c = put_none (ltb-true _ _ (sym c.lacks_room.ensures ∙ c.if-lacks_room.true)) refl refl

pub loop-i-init : goal.loop-i-init
loop-i-init c = (ltb-false _ _ (sym c.lacks_room.ensures ∙ c.if-lacks_room.false), omega arith, refl, paste-zero _ c.args.at c.args.s.now)

pub loop-i-preserved : goal.loop-i-preserved
loop-i-preserved c =
    (c.loop-i.invariant.0, omega arith, simp length-set c.loop-i.invariant.2, copy_more _ _ _ _ _ c.loop-i.invariant.3 (omega arith) (omega arith))

pub returns : goal.returns
returns c =
    put_wrote (record { moved = refl; room = omega arith; same = c.loop-i.invariant.2; bytes = copy_end _ _ _ _ c.loop-i.i c.loop-i.invariant.3 (omega arith) })
