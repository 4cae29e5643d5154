-- `bisection::normalise` meets its contract. Assumes nothing.
use Rattle.bisection.proofs.Halves.{normal_yes, normal_no}
use Rattle.bisection.proofs.normalise.Goals as goal

pub returns-then-s : goal.returns-then-s
returns-then-s c = normal_yes _ _ _ c.total-s.ensures c.if-s.true c.divide.ensures

pub returns-else-s : goal.returns-else-s
returns-else-s c = normal_no c.args.ws.now c.args.ws.now _ c.total-s.ensures c.if-s.false
