-- `reading::read_block` meets its contract. Assumes nothing.
use mathlib.Core.Path.{sym}
use native.Mathlib.Nat.{le_trans}
use native.Mathlib.Omega.{arith}
use Rattle.reading.proofs.Blocks.{front_length, held_few, prices_wanted, covariance_wanted, covariance_short, covariance_asked, covariance_told}
use Rattle.reading.proofs.read_block.Goals as goal

pub read_prices-requires : goal.read_prices-requires
read_prices-requires c = prices_wanted c.requires c.if-daily.true

pub shape_of-cells-then-daily : goal.shape_of-cells-then-daily
shape_of-cells-then-daily c = c.read_prices.auto.cells

pub shape_of-starts-then-daily : goal.shape_of-starts-then-daily
shape_of-starts-then-daily c = c.read_prices.auto.starts

pub returns-then-daily : goal.returns-then-daily
returns-then-daily c = c.read_prices.ensures

pub overflow_sub-n : goal.overflow_sub-n
overflow_sub-n c = c.requires.some

pub held-w-requires : goal.held-w-requires
held-w-requires c = omega (arith, covariance_short _ _ _ _ _ _ (covariance_wanted c.requires c.if-daily.false))

pub overflow_add-n : goal.overflow_add-n
overflow_add-n c = omega (arith, covariance_short _ _ _ _ _ _ (covariance_wanted c.requires c.if-daily.false))

pub slice_bounds-read_lines-end : goal.slice_bounds-read_lines-end
slice_bounds-read_lines-end c = le_trans (held_few _ _ _ c.held-w.ensures) c.requires.placed

pub slice_bounds-read_lines-end-2 : goal.slice_bounds-read_lines-end-2
slice_bounds-read_lines-end-2 c = front_length _ _ (le_trans (held_few _ _ _ c.held-w.ensures) c.requires.placed)

pub read_lines-good-requires : goal.read_lines-good-requires
read_lines-good-requires c =
    let a = covariance_wanted c.requires c.if-daily.false in
    let f = le_trans (held_few _ _ _ c.held-w.ensures) c.requires.placed in
    covariance_asked _ _ _ _ _ _ a _ c.held-w.ensures _ (sym (front_length _ _ f))

pub shape_of-cells : goal.shape_of-cells
shape_of-cells c = c.read_lines-good.auto.cells

pub returns : goal.returns
returns c =
    let a = covariance_wanted c.requires c.if-daily.false in
    let f = le_trans (held_few _ _ _ c.held-w.ensures) c.requires.placed in
    covariance_told _ _ _ _ _ _ a _ c.held-w.ensures _ _ _ _ _ _ (sym (front_length _ _ f)) c.read_lines-good.ensures _ c.then_some.ensures
