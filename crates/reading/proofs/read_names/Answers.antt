-- `reading::read_names` meets its contract. `Naming` says where the walk over the fields stands. Assumes nothing.
use Prim.Native.Nat.{ℕ, ◌+◌}
use mathlib.Core.Logic.{inl, inr}
use lib.ListN.{length}
use Rattle.reading.specs.Reading.{start_of}
use Rattle.reading.proofs.Front.{Front, front_step}
use mathlib.Core.Path.{◌≡◌, ap, sym, ◌∙◌}
use native.Mathlib.Omega.{arith}
use Rattle.reading.proofs.Walk.{field_within, naming_start, names_bad, naming_step, names_end}
use Rattle.reading.proofs.read_names.Goals as goal
use Rattle.reading.proofs.read_names.Goals.{then-i-starts, else-i-starts}

pub loop-at-init : goal.loop-at-init
loop-at-init c = naming_start _ _ _

pub overflow_add-starts : goal.overflow_add-starts
overflow_add-starts c = omega (arith, c.loop-at-test.true, c.requires.line_bound)

pub bounds-starts-i : goal.bounds-starts-i
bounds-starts-i c = c.if-i-starts.true

pub slice_bounds-is_name-count : goal.slice_bounds-is_name-count
slice_bounds-is_name-count c = omega (arith, field_within c.loop-at.invariant.walk c.loop-at-test.true _ c.end_of-e.ensures)

pub slice_bounds-is_name-start : goal.slice_bounds-is_name-start
slice_bounds-is_name-start c = omega (arith, field_within c.loop-at.invariant.walk c.loop-at-test.true _ c.end_of-e.ensures)

pub slice_bounds-is_name-end : goal.slice_bounds-is_name-end
slice_bounds-is_name-end c = omega (arith, field_within c.loop-at.invariant.walk c.loop-at-test.true _ c.end_of-e.ensures)

pub shape_of-starts-then-not-is_name : goal.shape_of-starts-then-not-is_name
shape_of-starts-then-not-is_name c =
    let came : (length c.if-i-starts.starts ≡ length c.loop-at.starts) × Front 0 (λ k. c.args.from + start_of 9 c.args.line.now k) (c.loop-at.i + 1) c.if-i-starts.starts =
    front_step 0 _ _ _ _ _ c.loop-at.invariant.front (ap (λ (k : ℕ). c.args.from + k) c.loop-at.invariant.walk.begun) (elim c.if-i-starts.branch [ then-i-starts t ↦ inl (t.if-i-starts.true, t.starts-is) | else-i-starts t ↦ inr (t.if-i-starts.false, t.starts-is) ]) in
    came.0 ∙ c.loop-at.invariant.sized

pub returns-then-not-is_name : goal.returns-then-not-is_name
returns-then-not-is_name c =
    let came : (length c.if-i-starts.starts ≡ length c.loop-at.starts) × Front 0 (λ k. c.args.from + start_of 9 c.args.line.now k) (c.loop-at.i + 1) c.if-i-starts.starts =
    front_step 0 _ _ _ _ _ c.loop-at.invariant.front (ap (λ (k : ℕ). c.args.from + k) c.loop-at.invariant.walk.begun) (elim c.if-i-starts.branch [ then-i-starts t ↦ inl (t.if-i-starts.true, t.starts-is) | else-i-starts t ↦ inr (t.if-i-starts.false, t.starts-is) ]) in
    names_bad c.loop-at.invariant c.loop-at-test.true _ c.end_of-e.ensures _ came.0 (sym c.is_name.ensures ∙ c.if-not-is_name.true)

pub overflow_add-at : goal.overflow_add-at
overflow_add-at c = omega (arith, field_within c.loop-at.invariant.walk c.loop-at-test.true _ c.end_of-e.ensures, c.requires.line_bound)

pub overflow_add-i : goal.overflow_add-i
overflow_add-i c = omega (arith, c.loop-at.invariant.walk.deep, c.loop-at-test.true, c.requires.line_bound)

pub loop-at-smaller : goal.loop-at-smaller
loop-at-smaller c = omega (arith, field_within c.loop-at.invariant.walk c.loop-at-test.true _ c.end_of-e.ensures)

pub loop-at-preserved : goal.loop-at-preserved
loop-at-preserved c =
    let came : (length c.if-i-starts.starts ≡ length c.loop-at.starts) × Front 0 (λ k. c.args.from + start_of 9 c.args.line.now k) (c.loop-at.i + 1) c.if-i-starts.starts =
    front_step 0 _ _ _ _ _ c.loop-at.invariant.front (ap (λ (k : ℕ). c.args.from + k) c.loop-at.invariant.walk.begun) (elim c.if-i-starts.branch [ then-i-starts t ↦ inl (t.if-i-starts.true, t.starts-is) | else-i-starts t ↦ inr (t.if-i-starts.false, t.starts-is) ]) in
    naming_step c.loop-at.invariant c.loop-at-test.true _ c.end_of-e.ensures _ came.0 (sym c.is_name.ensures ∙ c.if-not-is_name.false) came.1

pub shape_of-starts : goal.shape_of-starts
shape_of-starts c = c.loop-at.invariant.sized

pub returns : goal.returns
returns c = names_end c.loop-at.invariant c.requires.starts_in_bounds c.loop-at-test.false
