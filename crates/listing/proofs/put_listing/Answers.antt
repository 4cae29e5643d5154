-- `listing::put_listing` meets its contract. Assumes nothing.
use mathlib.Core.Path.{◌∙◌}
use Rattle.listing.proofs.Lines.{order_room, listed}
use Rattle.listing.proofs.put_listing.Goals as goal

pub put_assets-listed-requires : goal.put_assets-listed-requires
put_assets-listed-requires c = record {
  named = c.requires.named;
  weights_len = c.requires.weighed;
  starts_value = c.requires.limited;
  parted = c.requires.parted;
  in_bounds = c.requires.roomy;
}

pub put_order-named-requires : goal.put_order-named-requires
put_order-named-requires c = record {
  named = c.requires.named;
  by_index = c.requires.low;
  order_in_bounds = order_room c.requires c.put_assets-listed.ensures c.put_bytes-headed.ensures;
}

pub shape_of-out : goal.shape_of-out
shape_of-out c = c.put_byte.auto.out ∙ c.put_order-named.auto.out ∙ c.put_bytes-headed.auto.out ∙ c.put_assets-listed.auto.out

pub returns : goal.returns
returns c = listed c.requires c.put_assets-listed.ensures c.put_bytes-headed.ensures c.put_order-named.ensures c.put_byte.ensures
