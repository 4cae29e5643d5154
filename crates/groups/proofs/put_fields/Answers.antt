-- `groups::put_fields` meets its contract. Assumes nothing.
use Rattle.groups.proofs.Lines.{fields_put}
use Rattle.groups.proofs.put_fields.Goals as goal

pub returns : goal.returns
returns c = fields_put _ c.requires c.put_decimal-deep.ensures c.put_byte-tabbed.ensures c.put_decimal-sized.ensures c.put_byte-parted.ensures c.put_decimal.ensures
