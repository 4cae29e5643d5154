-- `ordering::merge` meets its contract. Assumes nothing.
use Rattle.ordering.proofs.Merging.{copied, merge_made}
use Rattle.ordering.proofs.merge.Goals as goal

pub returns : goal.returns
returns c =
    merge_made c.args.xs.now c.args.room.now c.copy.new.to c.args.mid c.requires.0 (copied c.args.xs.now c.args.room.now c.copy.new.to c.args.mid c.requires.0 c.requires.1 c.copy.ensures) _ c.weave.ensures
