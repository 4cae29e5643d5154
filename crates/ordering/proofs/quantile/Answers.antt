-- `ordering::quantile` meets its contract. Assumes nothing.
use Rattle.std.proofs.Common.{sym, ◌∙◌}
use Rattle.ordering.specs.Nearest.{part_outcome}
use Rattle.ordering.proofs.Parts.{part_of_lem, part_accepted, quantile_done, quantile_refused, value_and_list}
use Rattle.ordering.proofs.quantile.Goals as goal

pub quantile_in-requires : goal.quantile_in-requires
unfolding part_outcome
quantile_in-requires c = let p = part_accepted c.args.xs.now c.args.q (sym c.judge.ensures ∙ c.in_default.is) in
    record {
      part = part_of_lem c.args.q p.1;
      xs_len_bound = p.0;
    }

pub shape_of-xs-in-Err : goal.shape_of-xs-in-Err
shape_of-xs-in-Err c = c.clear.auto.out

pub returns-in-Err : goal.returns-in-Err
unfolding part_outcome
returns-in-Err c = value_and_list (quantile_refused c.args.xs.now c.args.q _ _ _ c.judge.ensures c.in-Err.is c.clear.ensures)

pub shape_of-xs : goal.shape_of-xs
shape_of-xs c = c.quantile_in.auto.xs

pub returns : goal.returns
unfolding part_outcome
returns c = value_and_list (quantile_done c.args.xs.now c.args.q _ _ _ c.judge.ensures c.in_default.is (c.settled.ensures ∙ c.quantile_in.ensures.value) c.quantile_in.ensures.xs_after)
