-- `linkage::put_row` meets its contract. Assumes nothing.
use Rattle.linkage.proofs.Laws.{take_two, drop_two}
use Rattle.linkage.proofs.put_row.Goals as goal

pub returns : goal.returns
returns c =
    (take_two c.args.rows.now c.args.k c.args.lo.0 c.args.hi.0 c.requires, drop_two c.args.rows.now c.args.k c.args.lo.0 c.args.hi.0)
