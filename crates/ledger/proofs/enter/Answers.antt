-- `ledger::enter` meets its contract. Assumes nothing.
use mathlib.Core.Path.{◌∙◌}
use Rattle.ledger.proofs.Outcomes.{names_told, lot_entered}
use Rattle.ledger.proofs.enter.Goals as goal

pub returns : goal.returns
returns c = lot_entered c.args.table.now c.args.names c.args.h c.enter_judged-said.result c.enter_judged-said.new.table _ c.enter_judged-said.ensures.value c.enter_judged-said.ensures.step_left c.unwrap_or.result (c.unwrap_or.ensures ∙ names_told c.enter_judged-said.result) c.clear_past.ensures
