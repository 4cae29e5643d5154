-- `groups::put_line` meets its contract. Assumes nothing.
use lib.ListN.{length}
use Rattle.listing.specs.Listing.{name_in}
use Rattle.groups.proofs.Lines.{plain_put, fields_room, tag_room, named_put}
use Rattle.groups.proofs.put_line.Goals as goal

pub returns-then-not-named : goal.returns-then-not-named
returns-then-not-named c = plain_put (name_in c.args.text.now c.args.starts.now) (length c.args.starts.now) c.args.v c.args.group c.args.named c.args.out.now c.args.at c.requires.named_in_bounds c.if-not-named.true c.put_fields-counted.ensures c.put_byte.ensures

pub put_fields-counted-requires-2 : goal.put_fields-counted-requires-2
put_fields-counted-requires-2 c = fields_room (name_in c.args.text.now c.args.starts.now) (length c.args.starts.now) c.args.v c.args.group c.args.named c.args.out.now c.args.at c.requires.named_in_bounds c.if-not-named.false c.requires.depth_bound c.put_indent-indented.ensures

pub put_tag-tagged-requires : goal.put_tag-tagged-requires
put_tag-tagged-requires c = record {
  named = c.requires.named;
  at_in_bounds = tag_room (name_in c.args.text.now c.args.starts.now) (length c.args.starts.now) c.args.v c.args.group c.args.named c.args.out.now c.args.at c.requires.named_in_bounds c.if-not-named.false c.requires.depth_bound c.put_indent-indented.ensures c.put_fields-counted-2.ensures;
}

pub returns : goal.returns
returns c = named_put (name_in c.args.text.now c.args.starts.now) (length c.args.starts.now) c.args.v c.args.group c.args.named c.args.out.now c.args.at c.requires.named_in_bounds c.if-not-named.false c.requires.depth_bound c.put_indent-indented.ensures c.put_fields-counted-2.ensures (λ h. c.requires.named.short _ h) c.put_tag-tagged.ensures c.put_byte-2.ensures
