-- `ledger::clear_past` meets its contract. Assumes nothing.
use Rattle.ledger.proofs.Outcomes.{past_few, past_many}
use Rattle.ledger.proofs.clear_past.Goals as goal

pub returns-then-names-le-MOST_NAMES : goal.returns-then-names-le-MOST_NAMES
returns-then-names-le-MOST_NAMES c = past_few _ _ _ c.if-names-le-MOST_NAMES.true c.clear_from.ensures

pub returns-else-names-le-MOST_NAMES : goal.returns-else-names-le-MOST_NAMES
returns-else-names-le-MOST_NAMES c = past_many _ _ c.if-names-le-MOST_NAMES.false
