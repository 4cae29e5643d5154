-- `sharing::order_leaves` meets its contract. Assumes nothing.
use mathlib.Core.Path.{refl}
use Rattle.sharing.proofs.Laws.{summarized}
use Rattle.sharing.proofs.order_leaves.Goals as goal

pub returns : goal.returns
returns c = summarized c.requires.below _ _ _ _ _ _ _ _ c.requires.order_len c.requires.firsts_len c.requires.sizes_len refl c.quasi_diagonalization.ensures.out_after c.summarize.ensures.value c.summarize.ensures.firsts_after c.summarize.ensures.sizes_after
