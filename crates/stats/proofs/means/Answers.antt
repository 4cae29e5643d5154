-- `stats::means` meets its contract. The first c entries are means. Assumes nothing.
use native.Mathlib.Omega.{arith}
use borrow.Author.Rules.{rules}
use Rattle.stats.proofs.Laws.{kept_step}
use Rattle.stats.proofs.means.Goals as goal

pub loop-c-preserved : goal.loop-c-preserved
loop-c-preserved c = (search rules, kept_step _ _ _ _ c.loop-c.invariant.1 c.mean.ensures (omega (arith, c.requires.wide)))
