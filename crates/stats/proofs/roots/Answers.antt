-- `stats::roots` meets its contract. The first i entries are roots. Assumes nothing.
use mathlib.Core.Path.{ap, ◌∙◌}
use native.Mathlib.Omega.{arith}
use borrow.Author.Rules.{rules}
use Rattle.arithmetic.specs.Root.{root}
use Rattle.stats.proofs.Laws.{kept_step}
use Rattle.stats.proofs.roots.Goals as goal

pub loop-i-preserved : goal.loop-i-preserved
loop-i-preserved c = (search rules, kept_step _ _ _ _ c.loop-i.invariant.1 (c.sqrt.ensures ∙ ap root c.at.ensures) (omega (arith, c.requires.wide)))
