-- `tails::expected_shortfall` meets its contract. Assumes nothing.
use Rattle.tails.specs.Tail.{row_return}
use Rattle.tails.proofs.Laws.{shortfall_is}
use Rattle.tails.proofs.expected_shortfall.Goals as goal

pub returns : goal.returns
returns c =
    let f = (row_return c.args.returns.now c.args.n c.args.assets.now c.args.w.now) in
    shortfall_is c.args.rows f c.args.q _ _ _ _ _ c.fill_returns.ensures c.limit_of-limit.ensures c.tail_below-t.ensures.sum_value c.tail_below-t.ensures.count_value c.mean_of.ensures
