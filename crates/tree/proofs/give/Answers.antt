-- `tree::give` meets its contract. Assumes nothing.
use mathlib.Core.List.{[]}
use mathlib.Core.Path.{refl}
use Rattle.lent.specs.Grid.{over}
use Rattle.lent.proofs.Laws.{over_push}
use Rattle.tree.proofs.give.Goals as goal

pub returns : goal.returns
unfolding over
returns c = over_push [] c.args.out.now 0 _ refl c.requires
