-- `linkage::in_square` meets its contract. Assumes nothing.
use native.Mathlib.Omega.{arith}
use Prim.Native.Nat.{◌-◌, ◌*◌}
use mathlib.Core.Path.{sym}
use Rattle.lent.proofs.Laws.{square_in}
use Rattle.linkage.proofs.Laws.{over_parts}
use Rattle.linkage.proofs.Rows.{rows_length}
use Rattle.linkage.proofs.Forms.{start_square}
use Rattle.linkage.proofs.in_square.Goals as goal

pub overflow_mul-n : goal.overflow_mul-n
overflow_mul-n c = omega (arith, square_in c.args.n c.requires.0)

pub fill-requires : goal.fill-requires
fill-requires c = omega (arith, square_in c.args.n c.requires.0, c.requires.1)

pub slice_bounds-steps-end : goal.slice_bounds-steps-end
slice_bounds-steps-end c = sym (start_square c.args.n c.args.xs.now _ c.requires.0 c.fill.ensures).0

pub steps-requires : goal.steps-requires
steps-requires c =
    (c.requires.0, (start_square c.args.n c.args.xs.now _ c.requires.0 c.fill.ensures).1, c.requires.2)

pub returns : goal.returns
returns c =
    (over_parts c.steps.new.rows _ c.args.rows.now (2 * (c.args.n - 1)) (rows_length c.args.method c.args.n c.args.xs.now c.requires.0) c.steps.ensures.0 c.steps.ensures.1, c.steps.ensures.2)
