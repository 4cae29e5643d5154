-- `fields::last_piece` meets its contract. From place k on there is one piece. Assumes nothing.
use Prim.Native.Nat.{◌+◌, ◌-◌}
use mathlib.Core.Path.{◌≡◌, sym, ◌∙◌}
use native.Mathlib.Omega.{arith}
use lib.ListN.{length, drop, length-drop}
use lib.Seq.{take_all}
use Rattle.fields.proofs.Pieces.{count_end}
use Rattle.fields.proofs.Last.{last_whole, last_after, last_on}
use Rattle.fields.proofs.last_piece.Goals as goal

pub loop-k-init : goal.loop-k-init
loop-k-init c = count_end c.args.d c.args.s.now (length c.args.s.now) (omega arith)

pub returns-then-s-k : goal.returns-then-s-k
returns-then-s-k c =
    let k : c.loop-k.k - 1 + 1 ≡ c.loop-k.k = omega arith in
    rw k
    (take_all (length c.args.s.now - c.loop-k.k) (drop c.loop-k.k c.args.s.now) (omega (arith, length-drop c.loop-k.k c.args.s.now))
    ∙ sym (last_after c.args.d c.args.s.now c.loop-k.k (omega arith) (omega arith) c.if-s-k.true c.loop-k.invariant))

pub loop-k-preserved : goal.loop-k-preserved
loop-k-preserved c =
    last_on c.args.d c.args.s.now c.loop-k.k (omega arith) (omega arith) c.if-s-k.false c.loop-k.invariant

pub returns : goal.returns
returns c =
    sym (last_whole c.args.d c.args.s.now (rw (let z : c.loop-k.k ≡ 0 = omega arith in z) at c.loop-k.invariant))
