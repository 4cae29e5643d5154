-- `listing::put_assets` meets its contract: the lines of the first i weights are written. Assumes nothing.
use native.Mathlib.Omega.{arith}
use mathlib.Core.Path.{ap}
use lib.ListN.{length}
use Rattle.listing.specs.Listing.{line_of, name_in}
use Rattle.writing.proofs.Writing.{none_yet, one_more, all_parts}
use Rattle.listing.proofs.Lines.{line_room_lem, ceiling_within, line_is}
use Rattle.listing.proofs.put_assets.Goals as goal

pub loop-i-init : goal.loop-i-init
loop-i-init c = none_yet _ _ 0 (omega arith)

pub ceiling_at-requires : goal.ceiling_at-requires
ceiling_at-requires c =
    ceiling_within _ _ _ c.requires.starts_value (omega (arith, c.requires.weights_len, c.loop-i-test.true))

pub put_asset-at-requires : goal.put_asset-at-requires
unfolding name_in
put_asset-at-requires c = let n = c.requires.named.short c.loop-i.i (omega (arith, c.requires.weights_len)) in
    record {
      name_len_bound = omega (arith, n, ap length c.name.ensures);
      at_in_bounds = line_room_lem c.requires.named _ _ c.loop-i.i c.requires.weights_len c.loop-i.invariant c.loop-i-test.true c.requires.in_bounds;
    }

pub loop-i-preserved : goal.loop-i-preserved
unfolding name_in
loop-i-preserved c =
    let name = name_in c.args.text.now c.args.starts.now in
    let line = line_is name c.args.weights.now c.args.ceilings.now c.loop-i.i _ _ _ c.name.ensures (c.requires.parted.are c.loop-i.i c.loop-i-test.true) c.ceiling_at.ensures in
    one_more (line_of name c.args.weights.now c.args.ceilings.now) c.loop-i.i c.loop-i.invariant c.put_asset-at.ensures line

pub returns : goal.returns
returns c = all_parts _ c.loop-i.i _ c.loop-i.invariant (omega arith)
