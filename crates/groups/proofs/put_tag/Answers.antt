-- `groups::put_tag` meets its contract. Assumes nothing.
use native.Mathlib.Omega.{arith}
use mathlib.Core.Path.{ap}
use lib.ListN.{length}
use Rattle.listing.specs.Listing.{name_in}
use Rattle.groups.proofs.Lines.{tag_none, tag_put}
use Rattle.groups.proofs.put_tag.Goals as goal

pub returns-then-v-starts : goal.returns-then-v-starts
returns-then-v-starts c = tag_none _ _ _ _ _ (omega (arith, c.if-v-starts.true)) (omega (arith, c.requires.at_in_bounds))

pub returns : goal.returns
unfolding name_in
returns c =
    let n = c.requires.named.short c.args.v (omega (arith, c.if-v-starts.false)) in
    tag_put _ _ _ _ (omega (arith, c.if-v-starts.false)) c.name.ensures (omega (arith, n, ap length c.name.ensures)) c.requires.at_in_bounds c.put_byte-tabbed.ensures c.put_bytes.ensures
