-- `lent::lacks_rows` meets its contract. Assumes nothing.
use Rattle.lent.proofs.Sizes.{no_rows, rows_lack}
use Rattle.lent.proofs.lacks_rows.Goals as goal

pub returns-then-n-eq0 : goal.returns-then-n-eq0
returns-then-n-eq0 c = no_rows _ _ c.if-n-eq0.true

pub returns : goal.returns
returns c = rows_lack c.args.room c.args.n
