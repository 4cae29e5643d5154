-- `arithmetic::root::tame` meets its contract. Assumes nothing.
use Rattle.arithmetic.proofs.root.Cases.{is_number}
use Rattle.arithmetic.proofs.root.tame.Goals as goal

pub returns-then-r : goal.returns-then-r
returns-then-r c = is_number _ c.args.r c.if-r.true
