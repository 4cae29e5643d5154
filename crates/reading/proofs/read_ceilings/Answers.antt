-- `reading::read_ceilings` meets its contract. Assumes nothing.
use Prim.Native.Nat.{◌+◌, ◌-◌}
use native.Mathlib.Nat.{le_trans}
use native.Mathlib.Omega.{arith}
use lib.ListN.{length, take, drop}
use Rattle.fields.proofs.Pieces.{pieces_le}
use Rattle.reading.proofs.Line.{part_short}
use Rattle.reading.proofs.Ceilings.{limits_none, assets_from, assets_enough, assets_read, names_short, limits_within, limits_wrong, limits_enough, limits_right}
use Rattle.reading.proofs.read_ceilings.Goals as goal

pub returns-then-not-limited : goal.returns-then-not-limited
returns-then-not-limited c = limits_none c.requires c.if-not-limited.true _

pub slice_bounds-read_last-count : goal.slice_bounds-read_last-count
slice_bounds-read_last-count c = assets_from c.requires c.if-not-limited.false c.if-not-daily.true

pub slice_bounds-read_last-start : goal.slice_bounds-read_last-start
slice_bounds-read_last-start c = assets_from c.requires c.if-not-limited.false c.if-not-daily.true

pub slice_bounds-read_last-end : goal.slice_bounds-read_last-end
slice_bounds-read_last-end c = omega arith

pub read_last-requires : goal.read_last-requires
read_last-requires c = record {
  s_len_bound = le_trans (part_short c.args.text.now (length c.args.text.now - c.args.from) c.args.from) c.requires.short;
  n_in_bounds = assets_enough c.requires c.if-not-limited.false c.if-not-daily.true;
  ceilings_len_bound = c.requires.few;
}

pub shape_of-ceilings-then-not-daily : goal.shape_of-ceilings-then-not-daily
shape_of-ceilings-then-not-daily c = c.read_last.auto.ceilings

pub returns-then-not-daily : goal.returns-then-not-daily
returns-then-not-daily c = assets_read c.requires c.if-not-limited.false c.if-not-daily.true _ _ _ c.read_last.ensures c.read_last.auto.ceilings

pub overflow_add-at : goal.overflow_add-at
overflow_add-at c = omega (arith, names_short c.requires c.if-not-limited.false c.if-not-daily.false _ c.end_of-at.ensures, c.requires.short)

pub slice_bounds-line-count : goal.slice_bounds-line-count
slice_bounds-line-count c = omega (arith, limits_within c.requires c.if-not-limited.false c.if-not-daily.false _ c.end_of-at.ensures _ c.end_of-e.ensures)

pub slice_bounds-line-start : goal.slice_bounds-line-start
slice_bounds-line-start c = omega (arith, limits_within c.requires c.if-not-limited.false c.if-not-daily.false _ c.end_of-at.ensures _ c.end_of-e.ensures)

pub slice_bounds-line-end : goal.slice_bounds-line-end
slice_bounds-line-end c = omega (arith, limits_within c.requires c.if-not-limited.false c.if-not-daily.false _ c.end_of-at.ensures _ c.end_of-e.ensures)

pub overflow_add-count : goal.overflow_add-count
overflow_add-count c =
    let k = c.end_of-at.result + 1 in
    let m = c.end_of-e.result - k in
    omega (arith, c.count.ensures, pieces_le 9 (take m (drop k c.args.text.now)), part_short c.args.text.now m k, c.requires.short)

pub returns-then-count-n : goal.returns-then-count-n
returns-then-count-n c = limits_wrong c.requires c.if-not-limited.false c.if-not-daily.false _ c.end_of-at.ensures _ c.end_of-e.ensures _ c.count.ensures c.if-count-n.true _

pub read_last-requires-2 : goal.read_last-requires-2
read_last-requires-2 c = let k = c.end_of-at.result + 1 in
    record {
      s_len_bound = le_trans (part_short c.args.text.now (c.end_of-e.result - k) k) c.requires.short;
      n_in_bounds = limits_enough c.requires c.if-not-limited.false c.if-not-daily.false _ c.end_of-at.ensures _ c.end_of-e.ensures _ c.count.ensures c.if-count-n.false;
      ceilings_len_bound = c.requires.few;
    }

pub shape_of-ceilings : goal.shape_of-ceilings
shape_of-ceilings c = c.read_last-2.auto.ceilings

pub returns : goal.returns
returns c = limits_right c.requires c.if-not-limited.false c.if-not-daily.false _ c.end_of-at.ensures _ c.end_of-e.ensures _ c.count.ensures c.if-count-n.false _ _ _ c.read_last-2.ensures c.requires.few c.read_last-2.auto.ceilings
