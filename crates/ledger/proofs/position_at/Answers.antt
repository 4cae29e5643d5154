-- `ledger::position_at` meets its contract. Assumes nothing.
use mathlib.Core.Path.{refl}
use Rattle.ledger.specs.Ledger.{position_at}
use Rattle.ledger.proofs.position_at.Goals as goal

pub returns : goal.returns
unfolding position_at
returns c = refl
