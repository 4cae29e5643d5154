-- `arithmetic::root::search` meets its contract. Assumes nothing.
use Rattle.std.proofs.Common.{◌*◌, ◌^◌, arith}
use Rattle.arithmetic.proofs.root.Laws.{near_of, near_top}
use Rattle.arithmetic.proofs.root.search.Goals as goal

pub returns-then-m-gt18014398509481978 : goal.returns-then-m-gt18014398509481978
returns-then-m-gt18014398509481978 c = near_top c.args.m (omega arith) (omega arith)

pub loop-hi-init : goal.loop-hi-init
loop-hi-init c = omega arith

pub overflow_sub-hi : goal.overflow_sub-hi
overflow_sub-hi c = omega arith

pub overflow_add-mid : goal.overflow_add-mid
overflow_add-mid c = omega arith

pub over-requires : goal.over-requires
over-requires c = omega arith

pub loop-hi-smaller-then-m-over : goal.loop-hi-smaller-then-m-over
loop-hi-smaller-then-m-over c = omega arith

pub loop-hi-preserved-then-m-over : goal.loop-hi-preserved-then-m-over
loop-hi-preserved-then-m-over c = omega arith

pub loop-hi-smaller : goal.loop-hi-smaller
loop-hi-smaller c = omega arith

pub loop-hi-preserved : goal.loop-hi-preserved
loop-hi-preserved c = omega arith

pub returns : goal.returns
returns c = near_of (c.args.m * 2 ^ 52) c.loop-hi.lo c.loop-hi.hi (omega arith) (omega arith) (omega arith)
