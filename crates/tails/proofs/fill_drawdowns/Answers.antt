-- `tails::fill_drawdowns` meets its contract. Assumes nothing.
use Rattle.std.proofs.Common.{refl, arith}
use Rattle.lent.proofs.Fill.{tab_start, tab_step}
use Rattle.tails.specs.Tail.{row_return, wealth, peak, drawdown}
use Rattle.tails.proofs.Laws.{tab_last, wealth_next, peak_next, drawdown_at}
use Rattle.tails.proofs.fill_drawdowns.Goals as goal

pub loop-r-init : goal.loop-r-init
unfolding wealth peak
loop-r-init c = record {
  filled = tab_start _ _;
  worth = refl;
  top = refl;
}

pub loop-r-preserved : goal.loop-r-preserved
loop-r-preserved c =
    let f = row_return c.args.returns.now c.args.n c.args.assets.now c.args.w.now in
    let i = c.loop-r.invariant in
    let g = wealth_next f c.loop-r.v c.row_return.result c.loop-r.r i.worth c.row_return.ensures in
    record {
      filled = tab_step (drawdown f) _ _ _ _ _ refl i.filled (drawdown_at f _ _ _ _ i.top i.worth c.fall_of.ensures) (omega arith);
      worth = g;
      top = peak_next f _ _ _ _ i.top g c.higher_of-p.ensures;
    }

pub returns : goal.returns
returns c =
    let f = row_return c.args.returns.now c.args.n c.args.assets.now c.args.w.now in
    let i = c.loop-r.invariant in
    tab_last _ _ (drawdown f) _ _ _ i.filled (drawdown_at f _ _ _ _ i.top i.worth c.fall_of-2.ensures) c.requires.out_len (omega arith) (omega arith)
