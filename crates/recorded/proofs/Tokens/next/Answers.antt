-- `recorded::Tokens::next` meets its contract. Assumes nothing.
use Rattle.std.proofs.Common.{ap, ◌∙◌}
use Rattle.recorded.proofs.Laws.{next_value_lem, next_place_lem}
use Rattle.recorded.proofs.Tokens.next.Goals as goal

pub returns-clause-value : goal.returns-clause-value
returns-clause-value g c = c.from_token.ensures
    ∙ ap g.T.Entry.of_token (next_value_lem _ _ _ _ c.skip.ensures.at_after (rw c.skip.ensures.same_text at c.number.ensures.value))

pub returns-clause-at_after : goal.returns-clause-at_after
returns-clause-at_after g c = next_place_lem _ _ _ _ c.skip.ensures.at_after (rw c.skip.ensures.same_text at c.number.ensures.at_after)
