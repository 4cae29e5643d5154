-- What an answer tells is its outcome. Assumes nothing.
use mathlib.Core.Path.{◌≡◌, refl}
use mathlib.Core.List.{List}
use lib.ListN.{length}
use Rattle.refusal.specs.Telling.{tells}
use Rattle.ledger.specs.Ledger.{entered_as, entered_tells}
use Rattle.ledger.specs.declared.Position.{Position}
use Rattle.std.specs.Prelude.{Ok, Err}
use Rattle.refusal.specs.Table.{Outcome}

pub entered_tells_lem : (o : Outcome) (l : List Position) → entered_tells (entered_as o l) ≡ tells o (length l)
unfolding entered_as
entered_tells_lem (Ok _) l = refl
entered_tells_lem (Err r) l = refl
