-- `tails::fill_returns` meets its contract. Assumes nothing.
use Rattle.std.proofs.Common.{refl, arith}
use Rattle.lent.proofs.Fill.{tab_start, tab_step}
use Rattle.tails.specs.Tail.{row_return}
use Rattle.tails.proofs.Laws.{tab_full}
use Rattle.tails.proofs.fill_returns.Goals as goal

pub loop-r-init : goal.loop-r-init
loop-r-init c = tab_start _ _

pub loop-r-preserved : goal.loop-r-preserved
loop-r-preserved c =
    tab_step (row_return c.args.returns.now c.args.n c.args.assets.now c.args.w.now) _ _ _ _ _ refl c.loop-r.invariant c.row_return.ensures (omega arith)

pub returns : goal.returns
returns c = tab_full _ _ _ _ _ c.loop-r.invariant c.requires.out_len (omega arith) (omega arith)
