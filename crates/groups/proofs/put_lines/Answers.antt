-- `groups::put_lines` meets its contract. Assumes nothing.
use Rattle.std.proofs.Common.{length, refl, arith}
use Rattle.writing.proofs.Writing.{none_yet, one_more}
use Rattle.listing.specs.Listing.{name_in}
use Rattle.groups.specs.Inner.{line_at}
use Rattle.groups.proofs.Lines.{lines_room}
use Rattle.groups.proofs.put_lines.Goals as goal

pub loop-v-init : goal.loop-v-init
loop-v-init c = none_yet _ _ 0 (omega arith)

pub put_line-at-requires : goal.put_line-at-requires
put_line-at-requires c = record {
  named = c.requires.named;
  depth_bound = c.requires.lined.low _ c.loop-v-test.true;
  named_in_bounds = lines_room _ _ c.requires.lined c.requires.named.short _ _ c.loop-v-test.true c.requires.named_in_bounds c.loop-v.invariant;
}

pub loop-v-preserved : goal.loop-v-preserved
unfolding line_at
loop-v-preserved c = one_more (line_at c.args.named (name_in c.args.text.now c.args.starts.now) (length c.args.starts.now) c.args.nodes.now c.args.depths.now c.args.sizes.now c.args.totals.now) c.loop-v.v-index c.loop-v.invariant c.put_line-at.ensures refl
