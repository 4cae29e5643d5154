-- `fractions::rank` meets its contract. Assumes nothing.
use mathlib.Core.Path.{ap, ◌∙◌}
use native.Mathlib.Omega.{arith}
use Rattle.lent.specs.Count.{one}
use Rattle.lent.proofs.Counting.{one_le}
use Rattle.fractions.specs.Fractions.{sooner, rank_of}
use Rattle.fractions.proofs.Ranks.{cast_one, count_start, count_more, count_end}
use Rattle.fractions.proofs.rank.Invariants.{counted}
use Rattle.fractions.proofs.rank.Goals as goal

pub loop-j-init : goal.loop-j-init
loop-j-init c = (count_start (counted c.args.left.now c.args.i), omega arith)

pub loop-j-preserved : goal.loop-j-preserved
unfolding sooner
loop-j-preserved c = (
  count_more (counted c.args.left.now c.args.i) c.loop-j.k _ c.loop-j.j c.loop-j.invariant.0 (c.from-k.ensures ∙ cast_one c.is_sooner.result ∙ ap one c.is_sooner.ensures),
  omega (arith, c.from-k.ensures, cast_one c.is_sooner.result, one_le c.is_sooner.result),
)

pub returns : goal.returns
unfolding rank_of
returns c = count_end (counted c.args.left.now c.args.i) c.loop-j.k c.loop-j.j _ c.loop-j.invariant.0 c.loop-j.auto.j-end c.loop-j-test.false
