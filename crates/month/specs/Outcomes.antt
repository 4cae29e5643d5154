-- What a call answers, in the words of the definitions. Definitions only.
use Rattle.std.specs.Prelude.{ℕ, Result}
use Rattle.refusal.specs.declared.Refusal.{Refusal}
use Rattle.month.specs.declared.Tally.{Tally}
use Rattle.month.specs.declared.Fault.{Fault}

-- a refusal and the number of the line at fault
abbrev pub fault : Refusal → ℕ → Fault
fault r k = record { refusal = r; line = k }

-- the counts, or the refusal and the number of the line at fault
abbrev pub Progress : Type 0
Progress = Result Tally Fault
