-- `fields::count` meets its contract. The d's counted and the pieces from place i on are the pieces. Assumes nothing.
use native.Mathlib.Nat.{zero-add}
use native.Mathlib.Omega.{arith}
use Rattle.fields.proofs.Pieces.{count_here, count_on, count_end}
use Rattle.fields.proofs.count.Goals.{then-b-d, else-b-d}
use Rattle.fields.proofs.count.Goals as goal

pub loop-b-init : goal.loop-b-init
loop-b-init c = (omega arith, omega arith, zero-add _)

pub loop-b-preserved : goal.loop-b-preserved
loop-b-preserved c =
    elim c.if-b-d.branch [
      | then-b-d w ↦ let e = count_here c.args.d c.args.s.now c.loop-b.b-index (omega arith) w.if-b-d.true in (omega arith, omega arith, omega arith)
      | else-b-d w ↦ let e = count_on c.args.d c.args.s.now c.loop-b.b-index (omega arith) w.if-b-d.false in (omega arith, omega arith, omega arith)
    ]

pub returns : goal.returns
returns c =
    omega (arith, count_end c.args.d c.args.s.now c.loop-b.b-index (omega arith))
