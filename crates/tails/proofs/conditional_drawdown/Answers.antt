-- `tails::conditional_drawdown` meets its contract. Assumes nothing.
use borrow.Author.Rules.{rules}
use Rattle.tails.specs.Tail.{row_return}
use Rattle.tails.proofs.Laws.{drawdown_is}
use Rattle.ordering.proofs.Nearest.{rest_part}
use Rattle.tails.proofs.conditional_drawdown.Goals as goal

pub limit_of-limit-requires : goal.limit_of-limit-requires
limit_of-limit-requires c = record {
  part = rest_part _ c.requires.part;
  xs_len_bound = search rules;
}

pub returns : goal.returns
returns c =
    let f = row_return c.args.returns.now c.args.n c.args.assets.now c.args.w.now in
    drawdown_is c.args.rows f c.args.q _ _ _ _ _ c.fill_drawdowns.ensures c.limit_of-limit.ensures c.tail_above-t.ensures.sum_value c.tail_above-t.ensures.count_value c.mean_of.ensures
