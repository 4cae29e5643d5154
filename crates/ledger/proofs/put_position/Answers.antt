-- `ledger::put_position` meets its contract. Assumes nothing.
use Rattle.ledger.proofs.Storing.{stored, position_put}
use Rattle.ledger.proofs.put_position.Goals as goal

pub returns : goal.returns
unfolding stored
returns c = position_put c.args.table.now c.args.i c.args.p c.requires.0 c.requires.1
