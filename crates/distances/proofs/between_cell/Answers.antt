-- `distances::between_cell` meets its contract. Assumes nothing.
use mathlib.Core.Path.{refl}
use native.Mathlib.Omega.{arith}
use Rattle.lent.proofs.Fill.{filling}
use Rattle.distances.proofs.between_cell.Goals as goal

pub at-requires : goal.at-requires
at-requires c = search filling

pub returns-then-j-i : goal.returns-then-j-i
returns-then-j-i c = record { left = λ h. c.at.ensures; on = λ e. absurd (omega arith); right = λ h. absurd (omega arith) }

pub returns-then-i-j : goal.returns-then-i-j
returns-then-i-j c = record { left = λ h. absurd (omega arith); on = λ e. refl; right = λ h. absurd (omega arith) }

pub returns-else-i-j : goal.returns-else-i-j
returns-else-i-j c = record { left = λ h. absurd (omega arith); on = λ e. absurd (omega arith); right = λ h. c.sqrt.ensures }
