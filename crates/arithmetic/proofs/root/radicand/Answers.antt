-- `arithmetic::root::radicand` meets its contract. Assumes nothing.
use Rattle.std.proofs.Common.{◌/◌, ◌%◌, ◌^◌, ◌∙◌, arith}
use Rattle.arithmetic.specs.Inner.{worth, Radicand}
use Rattle.arithmetic.proofs.root.Laws.{worth_subnormal, worth_normal}
use Rattle.arithmetic.proofs.root.radicand.Goals as goal

pub returns-then-f-eq0 : goal.returns-then-f-eq0
returns-then-f-eq0 c = let r : Radicand (worth c.args.b) c.paired.result.m c.paired.result.k = record {
  value = worth_subnormal (c.args.b / 2 ^ 52) (c.args.b % 2 ^ 52) c.lift-z.result c.if-f-eq0.true c.lift-z.ensures.2 c.lift-z.ensures.1 ∙ c.paired.ensures.value;
  least = c.paired.ensures.range.0;
  most = c.paired.ensures.range.1;
  small = c.paired.ensures.range.2;
} in
    record {
      value = r;
      normal = omega arith;
    }

pub returns-else-f-eq0 : goal.returns-else-f-eq0
returns-else-f-eq0 c = let r : Radicand (worth c.args.b) c.paired-else-f-eq0.result.m c.paired-else-f-eq0.result.k = record {
  value = worth_normal (c.args.b / 2 ^ 52) (c.args.b % 2 ^ 52) c.if-f-eq0.false ∙ c.paired-else-f-eq0.ensures.value;
  least = c.paired-else-f-eq0.ensures.range.0;
  most = c.paired-else-f-eq0.ensures.range.1;
  small = c.paired-else-f-eq0.ensures.range.2;
} in
    record {
      value = r;
      normal = omega arith;
    }
