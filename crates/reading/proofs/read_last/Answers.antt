-- `reading::read_last` meets its contract. `Lasting` says where the walk over the pieces stands. Assumes nothing.
use Prim.Native.Nat.{◌+◌}
use mathlib.Core.Path.{◌≡◌}
use mathlib.Core.Logic.{inl, inr}
use lib.ListN.{length}
use Rattle.fields.specs.Split.{piece}
use Rattle.ceilings.specs.Written.{ceiling_of}
use Rattle.heading.specs.Heading.{last_field}
use Rattle.reading.proofs.Front.{Front, front_step}
use native.Mathlib.Omega.{arith}
use Rattle.reading.proofs.Ceilings.{lasting_start, last_within, lasting_bad, ceiling_at_lem, lasting_step, lasting_end}
use Rattle.reading.proofs.read_last.Goals as goal
use Rattle.reading.proofs.read_last.Goals.{then-i-ceilings, else-i-ceilings}

pub loop-i-init : goal.loop-i-init
loop-i-init c = lasting_start _ _ _ _

pub slice_bounds-last_piece-count : goal.slice_bounds-last_piece-count
slice_bounds-last_piece-count c = omega (arith, last_within c.requires.n_in_bounds c.loop-i.invariant c.loop-i-test.true _ c.end_of-e.ensures)

pub slice_bounds-last_piece-start : goal.slice_bounds-last_piece-start
slice_bounds-last_piece-start c = omega (arith, last_within c.requires.n_in_bounds c.loop-i.invariant c.loop-i-test.true _ c.end_of-e.ensures)

pub slice_bounds-last_piece-end : goal.slice_bounds-last_piece-end
slice_bounds-last_piece-end c = omega (arith, last_within c.requires.n_in_bounds c.loop-i.invariant c.loop-i-test.true _ c.end_of-e.ensures)

pub shape_of-ceilings-in_default : goal.shape_of-ceilings-in_default
shape_of-ceilings-in_default c = c.loop-i.invariant.sized

pub returns-in_default : goal.returns-in_default
returns-in_default c = lasting_bad c.requires.n_in_bounds c.loop-i.invariant c.loop-i-test.true _ c.end_of-e.ensures _ c.last_piece.ensures _ c.read_ceiling-read.ensures _ c.in_default.is

pub bounds-ceilings-i : goal.bounds-ceilings-i
bounds-ceilings-i c = c.if-i-ceilings.true

pub overflow_add-at : goal.overflow_add-at
overflow_add-at c = omega (arith, last_within c.requires.n_in_bounds c.loop-i.invariant c.loop-i-test.true _ c.end_of-e.ensures, c.requires.s_len_bound)

pub loop-i-preserved : goal.loop-i-preserved
loop-i-preserved c =
    let came : (length c.if-i-ceilings.ceilings ≡ length c.loop-i.ceilings) × Front 0 (λ k. ceiling_of (last_field (piece c.args.d c.args.s.now k))) (c.loop-i.i + 1) c.if-i-ceilings.ceilings =
    front_step 0 _ _ _ _ _ c.loop-i.invariant.front
    (ceiling_at_lem c.requires.n_in_bounds c.loop-i.invariant c.loop-i-test.true _ c.end_of-e.ensures _ c.last_piece.ensures _ c.read_ceiling-read.ensures _ c.in-Some.is)
    (elim c.if-i-ceilings.branch [ then-i-ceilings t ↦ inl (t.if-i-ceilings.true, t.ceilings-is) | else-i-ceilings t ↦ inr (t.if-i-ceilings.false, t.ceilings-is) ]) in
    lasting_step c.requires.n_in_bounds c.loop-i.invariant c.loop-i-test.true _ c.end_of-e.ensures _ c.last_piece.ensures _ c.read_ceiling-read.ensures _ c.in-Some.is _ came.0 came.1

pub shape_of-ceilings : goal.shape_of-ceilings
shape_of-ceilings c = c.loop-i.invariant.sized

pub returns : goal.returns
returns c = lasting_end c.requires.n_in_bounds c.loop-i.invariant c.requires.ceilings_len_bound c.loop-i-test.false
