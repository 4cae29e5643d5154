-- `linkage::ward` meets its contract. Assumes nothing.
use mathlib.Core.Path.{ap, ◌∙◌}
use Rattle.arithmetic.specs.Root.{root}
use Rattle.linkage.specs.Merge.{ward_f}
use Rattle.linkage.proofs.ward.Goals as goal

pub returns : goal.returns
unfolding ward_f
returns c = c.sqrt.ensures ∙ ap root c.max.ensures
