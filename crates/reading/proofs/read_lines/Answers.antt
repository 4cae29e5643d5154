-- `reading::read_lines` meets its contract. `Lined` says where the walk over the lines stands. Assumes nothing.
use mathlib.Core.Logic.{inl, inr}
use lib.ListN.{length}
use Rattle.reading.specs.Reading.{start_of}
use Rattle.reading.proofs.Front.{Front, front_step}
use Prim.Native.Nat.{◌+◌, ◌-◌, ◌*◌}
use mathlib.Core.Path.{◌≡◌, refl, ◌∙◌}
use native.Mathlib.Nat.{le_trans}
use native.Mathlib.Omega.{arith}
use Rattle.reading.proofs.Line.{part_short}
use Rattle.reading.proofs.Lines.{part_length, lined_start, row_in, line_within, lined_bad, lined_step, lined_end}
use Rattle.reading.proofs.read_lines.Goals as goal
use Rattle.reading.proofs.read_lines.Goals.{then-i-starts, else-i-starts}

pub loop-i-init : goal.loop-i-init
loop-i-init c = lined_start _ _ _ _ _ _ _ _ c.requires _ _

pub bounds-starts-i : goal.bounds-starts-i
bounds-starts-i c = c.if-i-starts.true

pub overflow_mul-a : goal.overflow_mul-a
overflow_mul-a c = omega (arith, row_in _ _ _ _ _ _ _ _ c.requires c.loop-i.invariant c.loop-i-test.true refl, c.well_formed)

pub overflow_add-b : goal.overflow_add-b
overflow_add-b c = omega (arith, row_in _ _ _ _ _ _ _ _ c.requires c.loop-i.invariant c.loop-i-test.true refl, c.well_formed)

pub slice_bounds-read_line-count : goal.slice_bounds-read_line-count
slice_bounds-read_line-count c = omega (arith, line_within _ _ _ _ _ _ _ _ c.requires c.loop-i.invariant c.loop-i-test.true _ c.end_of-e.ensures)

pub slice_bounds-read_line-start : goal.slice_bounds-read_line-start
slice_bounds-read_line-start c = omega (arith, line_within _ _ _ _ _ _ _ _ c.requires c.loop-i.invariant c.loop-i-test.true _ c.end_of-e.ensures)

pub slice_bounds-read_line-end : goal.slice_bounds-read_line-end
slice_bounds-read_line-end c = omega (arith, line_within _ _ _ _ _ _ _ _ c.requires c.loop-i.invariant c.loop-i-test.true _ c.end_of-e.ensures)

pub offset_bounds-cells-a : goal.offset_bounds-cells-a
offset_bounds-cells-a c = omega (arith, row_in _ _ _ _ _ _ _ _ c.requires c.loop-i.invariant c.loop-i-test.true refl, c.loop-i.invariant.cells_wide, c.well_formed)

pub slice_bounds-read_line-count-in-loop-i : goal.slice_bounds-read_line-count-in-loop-i
slice_bounds-read_line-count-in-loop-i c = omega arith

pub slice_bounds-read_line-start-in-loop-i : goal.slice_bounds-read_line-start-in-loop-i
slice_bounds-read_line-start-in-loop-i c = omega (arith, row_in _ _ _ _ _ _ _ _ c.requires c.loop-i.invariant c.loop-i-test.true refl)

pub slice_bounds-read_line-end-in-loop-i : goal.slice_bounds-read_line-end-in-loop-i
slice_bounds-read_line-end-in-loop-i c = omega (arith, row_in _ _ _ _ _ _ _ _ c.requires c.loop-i.invariant c.loop-i-test.true refl)

pub read_line-requires : goal.read_line-requires
read_line-requires c = let a = c.loop-i.i * c.args.w in
    let p = part_length c.loop-i.cells a (a + c.args.w) c.args.w refl (row_in _ _ _ _ _ _ _ _ c.requires c.loop-i.invariant c.loop-i-test.true refl) in
    record {
      line_len_bound = le_trans (part_short c.args.text.now (c.end_of-e.result - c.loop-i.at) c.loop-i.at) c.requires.short;
      row_len_bound = omega (arith, p, c.requires.narrow);
    }

pub shape_of-cells-then-not-read_line : goal.shape_of-cells-then-not-read_line
shape_of-cells-then-not-read_line c = omega (arith, c.loop-i.invariant.cells_wide)

pub shape_of-starts-then-not-read_line : goal.shape_of-starts-then-not-read_line
shape_of-starts-then-not-read_line c =
    let came : (length c.if-i-starts.starts ≡ length c.loop-i.starts) × Front 0 (λ k. start_of 10 c.args.text.now (k + c.args.before)) (c.loop-i.i + 1) c.if-i-starts.starts =
    front_step 0 _ _ _ _ _ c.loop-i.invariant.front c.loop-i.invariant.begun (elim c.if-i-starts.branch [ then-i-starts t ↦ inl (t.if-i-starts.true, t.starts-is) | else-i-starts t ↦ inr (t.if-i-starts.false, t.starts-is) ]) in
    came.0 ∙ c.loop-i.invariant.starts_wide

pub returns-then-not-read_line : goal.returns-then-not-read_line
returns-then-not-read_line c =
    lined_bad _ _ _ _ _ _ _ _ c.requires c.loop-i.invariant c.loop-i-test.true _ c.end_of-e.ensures _ _ c.read_line.ensures _ _ c.if-not-read_line.true

pub overflow_add-at : goal.overflow_add-at
overflow_add-at c = omega (arith, line_within _ _ _ _ _ _ _ _ c.requires c.loop-i.invariant c.loop-i-test.true _ c.end_of-e.ensures, c.requires.short)

pub loop-i-preserved : goal.loop-i-preserved
loop-i-preserved c =
    let came : (length c.if-i-starts.starts ≡ length c.loop-i.starts) × Front 0 (λ k. start_of 10 c.args.text.now (k + c.args.before)) (c.loop-i.i + 1) c.if-i-starts.starts =
    front_step 0 _ _ _ _ _ c.loop-i.invariant.front c.loop-i.invariant.begun (elim c.if-i-starts.branch [ then-i-starts t ↦ inl (t.if-i-starts.true, t.starts-is) | else-i-starts t ↦ inr (t.if-i-starts.false, t.starts-is) ]) in
    let p = part_length _ _ _ _ refl (row_in _ _ _ _ _ _ _ _ c.requires c.loop-i.invariant c.loop-i-test.true refl) in
    lined_step _ _ _ _ _ _ _ _ c.requires c.loop-i.invariant c.loop-i-test.true _ c.end_of-e.ensures _ _ c.read_line.ensures _ _ _ _
    c.if-not-read_line.false refl (c.read_line.auto.row ∙ p) refl refl (omega arith) refl came.0 came.1

pub shape_of-cells : goal.shape_of-cells
shape_of-cells c = c.loop-i.invariant.cells_wide

pub shape_of-starts : goal.shape_of-starts
shape_of-starts c = c.loop-i.invariant.starts_wide

pub returns : goal.returns
returns c = lined_end _ _ _ _ _ _ _ _ c.requires c.loop-i.invariant refl c.loop-i-test.false
