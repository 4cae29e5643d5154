-- `recorded::Tokens::fill_from` meets its contract. Assumes nothing.
use Rattle.std.proofs.Common.{rules}
use Rattle.recorded.proofs.Laws.{part_place_lem}
use Rattle.recorded.proofs.Tokens.fill_from.Goals as goal

pub returns-clause-at_after : goal.returns-clause-at_after
returns-clause-at_after g c =
    part_place_lem _ _ _ _ _ _ _ c.next-count.ensures.value c.next-count.ensures.at_after (rw c.next-count.ensures.same_text at c.fill.ensures.at_after)
    (search rules)
