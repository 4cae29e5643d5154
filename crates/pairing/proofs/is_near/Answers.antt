-- `pairing::is_near` meets its contract. Assumes nothing.
use Rattle.pairing.proofs.Near.{near_is}
use Rattle.pairing.proofs.is_near.Goals as goal

pub returns-then-z : goal.returns-then-z
returns-then-z c = rw (near_is c.args.x c.args.y, c.if-z.true)

pub returns-else-z : goal.returns-else-z
returns-else-z c = rw (near_is c.args.x c.args.y, c.if-z.false)
