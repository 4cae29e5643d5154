-- `reading::read_prices` meets its contract. Assumes nothing.
use Prim.Native.Nat.{◌-◌, ◌≤◌}
use mathlib.Core.Path.{refl, sym, ap, ◌∙◌}
use native.Mathlib.Nat.{le_trans, le_of_eq}
use native.Mathlib.Omega.{arith}
use lib.ListN.{length, take, drop}
use Rattle.fields.proofs.Pieces.{pieces_le}
use Rattle.reading.specs.Reading.{is_names}
use Rattle.reading.proofs.Line.{part_short}
use Rattle.reading.proofs.Blocks.{front_length, fields_are, put_none, held_narrow, held_few, prices_more, prices_none, names_within, names_room, names_cut, names_true, names_wrong, days_asked, prices_asked, prices_told}
use Rattle.reading.proofs.read_prices.Goals as goal

pub overflow_add-before : goal.overflow_add-before
overflow_add-before c = omega (arith, prices_more _ _ _ _ _ _ c.requires)

pub returns-then-ends-before : goal.returns-then-ends-before
returns-then-ends-before c = prices_none _ _ _ _ _ _ c.requires c.if-ends-before.true _ _

pub slice_bounds-line-count : goal.slice_bounds-line-count
slice_bounds-line-count c = omega (arith, names_within _ _ _ _ _ _ c.requires c.if-ends-before.false _ refl _ c.end_of-e.ensures)

pub slice_bounds-line-start : goal.slice_bounds-line-start
slice_bounds-line-start c = omega (arith, names_within _ _ _ _ _ _ c.requires c.if-ends-before.false _ refl _ c.end_of-e.ensures)

pub slice_bounds-line-end : goal.slice_bounds-line-end
slice_bounds-line-end c = omega (arith, names_within _ _ _ _ _ _ c.requires c.if-ends-before.false _ refl _ c.end_of-e.ensures)

pub overflow_add-n : goal.overflow_add-n
overflow_add-n c =
    let l = take (c.end_of-e.result - c.args.from) (drop c.args.from c.args.text.now) in
    let m : length l ≤ length c.args.text.now = part_short c.args.text.now (c.end_of-e.result - c.args.from) c.args.from in
    omega (arith, c.count-n.ensures, pieces_le 9 l, m, c.requires.short)

pub held-w-requires : goal.held-w-requires
held-w-requires c =
    omega (arith, c.requires.short, pieces_le 10 c.args.text.now, c.requires.cut)

pub slice_bounds-read_names-end : goal.slice_bounds-read_names-end
slice_bounds-read_names-end c = le_trans (held_few _ _ _ c.held-w.ensures) c.requires.placed

pub slice_bounds-read_names-end-2 : goal.slice_bounds-read_names-end-2
slice_bounds-read_names-end-2 c = front_length _ _ (le_trans (held_few _ _ _ c.held-w.ensures) c.requires.placed)

pub read_names-requires : goal.read_names-requires
read_names-requires c = let cut = names_cut _ _ _ _ _ _ c.requires c.if-ends-before.false _ refl _ c.end_of-e.ensures in
    let n = fields_are _ _ _ c.count-n.ensures cut in
    let f = le_trans (held_few _ _ _ c.held-w.ensures) c.requires.placed in record {
      line_bound = le_trans (names_room _ _ _ _ _ _ c.requires c.if-ends-before.false _ n _ c.end_of-e.ensures) c.requires.short;
      starts_in_bounds = le_trans (le_of_eq (sym (front_length _ _ f))) (le_trans (held_narrow _ _ _ c.held-w.ensures) (le_of_eq (fields_are _ _ _ c.count-n.ensures refl)));
    }

pub returns-then-not-read_names : goal.returns-then-not-read_names
returns-then-not-read_names c =
    let cut = names_cut _ _ _ _ _ _ c.requires c.if-ends-before.false _ refl _ c.end_of-e.ensures in
    let n = fields_are _ _ _ c.count-n.ensures cut in
    names_wrong _ _ _ _ _ _ c.requires c.if-ends-before.false _ n (ap is_names (sym cut) ∙ sym c.read_names.ensures.told ∙ c.if-not-read_names.true) _ _ _ _

pub overflow_add-e : goal.overflow_add-e
overflow_add-e c = omega (arith, names_within _ _ _ _ _ _ c.requires c.if-ends-before.false _ refl _ c.end_of-e.ensures, c.requires.short)

pub days_from-at-requires : goal.days_from-at-requires
days_from-at-requires c = days_asked _ _ _ _ _ _ c.requires c.if-ends-before.false _ refl _ c.end_of-e.ensures

pub read_lines-good-requires : goal.read_lines-good-requires
read_lines-good-requires c =
    let cut = names_cut _ _ _ _ _ _ c.requires c.if-ends-before.false _ refl _ c.end_of-e.ensures in
    let n = fields_are _ _ _ c.count-n.ensures cut in
    prices_asked _ _ _ _ _ _ c.requires c.if-ends-before.false _ n _ c.end_of-e.ensures _ c.held-w.ensures _ _ c.days_from-at.ensures refl

pub shape_of-cells : goal.shape_of-cells
shape_of-cells c = c.read_lines-good.auto.cells

pub returns : goal.returns
returns c =
    let cut = names_cut _ _ _ _ _ _ c.requires c.if-ends-before.false _ refl _ c.end_of-e.ensures in
    let n = fields_are _ _ _ c.count-n.ensures cut in
    let f = le_trans (held_few _ _ _ c.held-w.ensures) c.requires.placed in
    prices_told _ _ _ _ _ _ c.requires c.if-ends-before.false _ n _ c.end_of-e.ensures _ c.held-w.ensures _ _ _ cut (names_true c.read_names.ensures c.if-not-read_names.false) (c.read_names.auto.starts ∙ sym (front_length _ _ f)) _ _ _ _ _ c.read_lines-good.ensures _ c.then_some.ensures
    _ (put_none c.read_lines-good.new.starts _ c.read_lines-good.auto.starts)
