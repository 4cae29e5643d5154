-- `linkage::scan_row` meets its contract. The invariant: the best so far is that of the places from `from` to j, read along the row. Assumes nothing.
use native.Mathlib.Omega.{arith}
use Prim.Native.Nat.{◌+◌, ◌-◌}
use mathlib.Core.Path.{◌≡◌, refl, sym, ap, subst, ◌∙◌}
use lib.ListN.{length, get_or, take, drop}
use Rattle.lent.specs.Range.{range}
use Rattle.lent.proofs.Range.{range_none, range_more, range_end}
use Rattle.triangle.proofs.Within.{shift_in}
use Rattle.linkage.specs.Inner.{meet}
use Rattle.linkage.proofs.Packed.{Found, row_found, row_skip}
use Rattle.linkage.proofs.Forms.{along, cut_off, row_long, row_same}
use Rattle.linkage.proofs.scan_row.Goals as goal

pub offset_bounds-slots-i : goal.offset_bounds-slots-i
offset_bounds-slots-i c = omega arith

pub bounds-slots-i : goal.bounds-slots-i
bounds-slots-i c = omega arith

pub offset_bounds-ids-a : goal.offset_bounds-ids-a
offset_bounds-ids-a c = omega (arith, c.requires.5 c.args.i c.requires.3)

pub bounds-ids-a : goal.bounds-ids-a
bounds-ids-a c = omega (arith, c.requires.5 c.args.i c.requires.3)

pub offset_bounds-shifts-a : goal.offset_bounds-shifts-a
offset_bounds-shifts-a c = omega (arith, c.requires.5 c.args.i c.requires.3)

pub bounds-shifts-a : goal.bounds-shifts-a
bounds-shifts-a c = omega (arith, c.requires.5 c.args.i c.requires.3)

pub offset_bounds-d-shift : goal.offset_bounds-d-shift
offset_bounds-d-shift c = omega (arith, shift_in c.args.form c.args.n (get_or c.args.slots.now c.args.i 0) c.args.shifts.now (length c.args.d.now) (c.requires.5 c.args.i c.requires.3) c.requires.7 c.requires.8, c.well_formed)

pub slice_bounds-row-count : goal.slice_bounds-row-count
slice_bounds-row-count c = omega (arith, shift_in c.args.form c.args.n (get_or c.args.slots.now c.args.i 0) c.args.shifts.now (length c.args.d.now) (c.requires.5 c.args.i c.requires.3) c.requires.7 c.requires.8)

pub slice_bounds-row-start : goal.slice_bounds-row-start
slice_bounds-row-start c = omega (arith, shift_in c.args.form c.args.n (get_or c.args.slots.now c.args.i 0) c.args.shifts.now (length c.args.d.now) (c.requires.5 c.args.i c.requires.3) c.requires.7 c.requires.8)

pub slice_bounds-row-end : goal.slice_bounds-row-end
slice_bounds-row-end c = omega (arith, shift_in c.args.form c.args.n (get_or c.args.slots.now c.args.i 0) c.args.shifts.now (length c.args.d.now) (c.requires.5 c.args.i c.requires.3) c.requires.7 c.requires.8)

pub next_near-j-requires : goal.next_near-j-requires
next_near-j-requires c =
    (c.requires.1, c.requires.4, (λ j x y. row_long c.args.form c.args.n c.args.m c.args.d.now c.args.slots.now c.args.shifts.now c.args.i c.args.from _ _ c.requires.0 c.requires.2 c.requires.5 c.requires.6 c.requires.7 c.requires.8 refl (cut_off c.args.d.now _) j x y))

pub loop-j-init : goal.loop-j-init
loop-j-init c =
    let shift = get_or c.args.shifts.now (get_or c.args.slots.now c.args.i 0) 0 in
    let row = take (length c.args.d.now - shift) (drop shift c.args.d.now) in
    let a = get_or c.args.slots.now c.args.i 0 in
    let f = meet (along row) c.args.ids.now c.args.slots.now a in
    let b : c.args.first ≡ range f c.args.from c.args.from c.args.first = sym (range_none f c.args.from c.args.from c.args.first (omega arith)) in
    (c.next_near-j.ensures.0, c.next_near-j.ensures.1, row_skip (along row) c.args.ids.now c.args.slots.now a c.args.from c.args.from _ c.args.first c.args.first b (omega arith) c.next_near-j.ensures.0 c.requires.9 c.next_near-j.ensures.2, c.requires.9)

pub offset_bounds-slots-j : goal.offset_bounds-slots-j
offset_bounds-slots-j c = omega arith

pub bounds-slots-j : goal.bounds-slots-j
bounds-slots-j c = omega arith

pub right-requires : goal.right-requires
right-requires c =
    row_long c.args.form c.args.n c.args.m c.args.d.now c.args.slots.now c.args.shifts.now c.args.i c.args.from _ _ c.requires.0 c.requires.2 c.requires.5 c.requires.6 c.requires.7 c.requires.8 refl (cut_off c.args.d.now _) c.loop-j.j c.loop-j.invariant.0 (omega arith)

pub offset_bounds-ids-b : goal.offset_bounds-ids-b
offset_bounds-ids-b c = omega (arith, c.requires.5 c.loop-j.j (omega arith))

pub bounds-ids-b : goal.bounds-ids-b
bounds-ids-b c = omega (arith, c.requires.5 c.loop-j.j (omega arith))

pub overflow_add-j : goal.overflow_add-j
overflow_add-j c = omega arith

pub next_near-j-requires-in-loop-j : goal.next_near-j-requires-in-loop-j
next_near-j-requires-in-loop-j c =
    (c.requires.1, omega arith, (λ j x y. row_long c.args.form c.args.n c.args.m c.args.d.now c.args.slots.now c.args.shifts.now c.args.i c.args.from _ _ c.requires.0 c.requires.2 c.requires.5 c.requires.6 c.requires.7 c.requires.8 refl (cut_off c.args.d.now _) j (omega (arith, c.loop-j.invariant.0)) y))

pub loop-j-smaller : goal.loop-j-smaller
loop-j-smaller c = omega (arith, c.next_near-j-in-loop-j.ensures.0, c.next_near-j-in-loop-j.ensures.1, c.loop-j-test.true)

pub loop-j-preserved : goal.loop-j-preserved
unfolding meet
loop-j-preserved c =
    let shift = get_or c.args.shifts.now (get_or c.args.slots.now c.args.i 0) 0 in
    let row = take (length c.args.d.now - shift) (drop shift c.args.d.now) in
    let a = get_or c.args.slots.now c.args.i 0 in
    let f = meet (along row) c.args.ids.now c.args.slots.now a in
    let b : c.offered-best.result ≡ range f c.args.from (c.loop-j.j + 1) c.args.first =
    c.offered-best.ensures ∙ rw c.right.ensures refl ∙ ap (f c.loop-j.j) c.loop-j.invariant.2 ∙ sym (range_more f _ _ _ c.loop-j.invariant.0) in
    let k : Found c.offered-best.result = subst Found (sym b) (row_found (along row) c.args.ids.now c.args.slots.now a c.args.from (c.loop-j.j + 1) c.args.first c.requires.9) in
    (omega (arith, c.next_near-j-in-loop-j.ensures.0, c.loop-j.invariant.0), c.next_near-j-in-loop-j.ensures.1, row_skip (along row) c.args.ids.now c.args.slots.now a c.args.from (c.loop-j.j + 1) _ c.args.first c.offered-best.result b (omega (arith, c.loop-j.invariant.0)) c.next_near-j-in-loop-j.ensures.0 k c.next_near-j-in-loop-j.ensures.2, k)

pub overflow_sub-result : goal.overflow_sub-result
overflow_sub-result c = omega arith

pub returns : goal.returns
returns c =
    (range_end _ _ _ _ _ _ c.loop-j.invariant.2 c.loop-j.invariant.1 (omega arith) ∙ row_same c.args.form c.args.n c.args.m c.args.d.now c.args.slots.now c.args.shifts.now c.args.i c.args.from _ _ c.requires.0 c.requires.2 c.requires.5 c.requires.6 c.requires.7 c.requires.8 refl (cut_off c.args.d.now _) c.args.ids.now c.args.first, omega (arith, c.requires.4))
