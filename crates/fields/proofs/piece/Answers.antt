-- `fields::piece` meets its contract. Piece k is piece k - j from the place where piece j begins. Assumes nothing.
use Prim.Native.Nat.{◌-◌}
use mathlib.Core.Path.{◌≡◌, sym, ap, ◌∙◌}
use native.Mathlib.Nat.{sub-zero}
use native.Mathlib.Omega.{arith}
use lib.ListN.{length, drop, drop_of_length-le}
use lib.Seq.{take-nil}
use Rattle.fields.specs.Split.{piece}
use Rattle.fields.proofs.Pieces.{end_le, end_ge, cut_first, piece_upto, piece_none, piece_next}
use Rattle.fields.proofs.piece.Goals as goal

pub loop-init : goal.loop-init
loop-init c = (omega arith, ap (piece c.args.d c.args.s.now) (sym (sub-zero _)))

pub returns-then-e-s : goal.returns-then-e-s
returns-then-e-s c =
    rw (drop_of_length-le c.args.s.now {i = c.end_of-e.result} (omega arith))
    (take-nil (length c.args.s.now - c.end_of-e.result)
    ∙ sym (c.loop.invariant.1 ∙ piece_none c.args.d c.args.s.now c.loop.at c.loop.invariant.0 c.args.k c.loop.counter (omega arith) (sym c.end_of-e.ensures ∙ c.if-e-s.true)))

pub overflow_add-at : goal.overflow_add-at
overflow_add-at c =
    omega (arith, end_le c.args.d c.args.s.now c.loop.at c.loop.invariant.0, c.end_of-e.ensures, c.well_formed)

pub loop-preserved : goal.loop-preserved
loop-preserved c = (
  omega (arith, end_le c.args.d c.args.s.now c.loop.at c.loop.invariant.0),
  c.loop.invariant.1 ∙ rw c.end_of-e.ensures (piece_next c.args.d c.args.s.now c.loop.at c.loop.invariant.0 c.args.k c.loop.counter (omega arith) (λ e. c.if-e-s.false (c.end_of-e.ensures ∙ e))),
)

pub slice_bounds-result-count-2 : goal.slice_bounds-result-count-2
slice_bounds-result-count-2 c =
    omega (arith, end_ge c.args.d c.args.s.now c.loop.at c.loop.invariant.0)

pub slice_bounds-result-start-2 : goal.slice_bounds-result-start-2
slice_bounds-result-start-2 c =
    omega (arith, end_ge c.args.d c.args.s.now c.loop.at c.loop.invariant.0)

pub slice_bounds-result-end-2 : goal.slice_bounds-result-end-2
slice_bounds-result-end-2 c =
    omega (arith, end_le c.args.d c.args.s.now c.loop.at c.loop.invariant.0, end_ge c.args.d c.args.s.now c.loop.at c.loop.invariant.0)

pub returns : goal.returns
returns c =
    let z : c.args.k - c.loop.counter ≡ 0 = omega arith in
    sym (c.loop.invariant.1 ∙ rw (z, c.end_of-e-2.ensures) (piece_upto c.args.d (drop c.loop.at c.args.s.now) ∙ sym (cut_first c.args.d c.args.s.now c.loop.at c.loop.invariant.0)))
