-- `arithmetic::root::paired` meets its contract. Assumes nothing.
use Rattle.std.proofs.Common.{arith}
use Rattle.arithmetic.proofs.root.Laws.{paired_even, paired_odd}
use Rattle.arithmetic.proofs.root.paired.Goals as goal

pub returns-then-e-eq0 : goal.returns-then-e-eq0
returns-then-e-eq0 c = record {
  value = paired_even c.args.m c.args.e c.if-e-eq0.true;
  range = omega arith;
}

pub returns-else-e-eq0 : goal.returns-else-e-eq0
returns-else-e-eq0 c = record {
  value = paired_odd c.args.m c.args.e c.if-e-eq0.false;
  range = omega arith;
}
