-- `reading::read_line` meets its contract. Assumes nothing.
use Prim.Native.Nat.{◌+◌, ◌-◌}
use mathlib.Core.Path.{sym, ◌∙◌}
use native.Mathlib.Nat.{le_trans}
use native.Mathlib.Omega.{arith}
use lib.ListN.{length}
use Rattle.fields.proofs.Pieces.{front_length}
use Rattle.reading.proofs.Line.{end_within, after_within, part_short, day_read, asset_unnamed, asset_bare, asset_read}
use Rattle.reading.proofs.read_line.Goals as goal

pub read_row-requires : goal.read_row-requires
read_row-requires c = record { line_len_bound = c.requires.line_len_bound; row_len_bound = c.requires.row_len_bound }

pub shape_of-row-then-not-named : goal.shape_of-row-then-not-named
shape_of-row-then-not-named c = c.read_row.auto.row

pub returns-then-not-named : goal.returns-then-not-named
returns-then-not-named c = day_read _ _ _ _ _ c.if-not-named.true c.read_row.ensures

pub slice_bounds-is_name-end : goal.slice_bounds-is_name-end
slice_bounds-is_name-end c = rw c.end_of-e.ensures (front_length 9 _)

pub returns-then-not-is_name : goal.returns-then-not-is_name
returns-then-not-is_name c = asset_unnamed _ _ _ _ c.if-not-named.false _ c.end_of-e.ensures (sym c.is_name.ensures ∙ c.if-not-is_name.true)

pub returns-then-e-line : goal.returns-then-e-line
returns-then-e-line c =
    asset_bare _ _ _ _ c.if-not-named.false _ c.end_of-e.ensures (sym c.is_name.ensures ∙ c.if-not-is_name.false) c.requires.row_len_bound c.if-e-line.true

pub overflow_add-after : goal.overflow_add-after
overflow_add-after c = omega (arith, end_within _ _ c.end_of-e.ensures, c.requires.line_len_bound)

pub slice_bounds-read_row-count : goal.slice_bounds-read_row-count
slice_bounds-read_row-count c = after_within _ _ c.end_of-e.ensures c.if-e-line.false

pub slice_bounds-read_row-start : goal.slice_bounds-read_row-start
slice_bounds-read_row-start c = after_within _ _ c.end_of-e.ensures c.if-e-line.false

pub slice_bounds-read_row-end : goal.slice_bounds-read_row-end
slice_bounds-read_row-end c = omega arith

pub read_row-requires-2 : goal.read_row-requires-2
read_row-requires-2 c = let k = c.end_of-e.result + 1 in
    record {
      line_len_bound = le_trans (part_short c.args.line.now (length c.args.line.now - k) k) c.requires.line_len_bound;
      row_len_bound = c.requires.row_len_bound;
    }

pub shape_of-row : goal.shape_of-row
shape_of-row c = c.read_row-2.auto.row

pub returns : goal.returns
returns c =
    asset_read _ _ _ _ c.if-not-named.false _ c.end_of-e.ensures (sym c.is_name.ensures ∙ c.if-not-is_name.false) _ c.if-e-line.false c.read_row-2.ensures
