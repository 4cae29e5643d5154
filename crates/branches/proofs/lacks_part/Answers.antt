-- `branches::lacks_part` meets its contract. Assumes nothing.
use Rattle.std.proofs.Common.{◌∙◌}
use borrow.Author.Tests.{lt-ltb}
use Rattle.branches.proofs.Answer.{lacks_first, lacks_size, lacks_start, lacks_end}
use Rattle.branches.proofs.lacks_part.Goals as goal
use Rattle.branches.proofs.lacks_part.Goals.{then-v-firsts-via-then-v-firsts, then-v-firsts-via-else-v-firsts+then-v-sizes}

pub returns-then-v-firsts : goal.returns-then-v-firsts
returns-then-v-firsts c =
    elim c.then-v-firsts.branch [
      | then-v-firsts-via-then-v-firsts w ↦ lacks_first _ _ _ _ w.if-v-firsts.true
      | then-v-firsts-via-else-v-firsts+then-v-sizes w ↦ lacks_size _ _ _ _ w.if-v-firsts.false w.if-v-sizes.true
    ]

pub returns-then-len-firsts : goal.returns-then-len-firsts
returns-then-len-firsts c =
    lt-ltb _ _ c.if-len-firsts.true ∙ lacks_start c.args.len c.args.firsts.now c.args.sizes.now c.args.v c.if-v-firsts.false c.if-v-sizes.false c.if-len-firsts.true

pub returns-else-len-firsts : goal.returns-else-len-firsts
returns-else-len-firsts c = lacks_end _ _ _ _ c.if-v-firsts.false c.if-v-sizes.false c.if-len-firsts.false
