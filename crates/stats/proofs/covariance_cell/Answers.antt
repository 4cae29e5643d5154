-- `stats::covariance_cell` meets its contract. Assumes nothing.
use native.Mathlib.Omega.{arith}
use Rattle.lent.proofs.Fill.{filling}
use Rattle.stats.proofs.covariance_cell.Goals as goal

pub at-requires : goal.at-requires
at-requires c = search filling

pub returns-then-j-i : goal.returns-then-j-i
returns-then-j-i c = record { left = λ h. c.at.ensures; right = λ h. absurd (omega arith) }

pub returns : goal.returns
returns c = record { left = λ h. absurd (omega arith); right = λ h. rw c.count.ensures }
