-- `ordering::quantile_in` meets its contract. Assumes nothing.
use Rattle.ordering.proofs.Nearest.{quantile_none, quantile_some}
use Rattle.ordering.proofs.quantile_in.Goals as goal

pub shape_of-xs-then-n-eq0 : goal.shape_of-xs-then-n-eq0
shape_of-xs-then-n-eq0 c = c.put_in_order.auto.xs

pub returns-then-n-eq0 : goal.returns-then-n-eq0
returns-then-n-eq0 c = record {
  value = quantile_none _ _ c.if-n-eq0.true;
  xs_after = c.put_in_order.ensures;
}

pub shape_of-xs : goal.shape_of-xs
shape_of-xs c = c.put_in_order.auto.xs

pub returns : goal.returns
returns c = record {
  value = rw (c.put_in_order.ensures, c.place_of-k.ensures.0) (quantile_some c.args.q c.args.xs.now c.if-n-eq0.false);
  xs_after = c.put_in_order.ensures;
}
