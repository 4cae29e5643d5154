-- What a call answers, in the words of the definitions. Definitions only.
use Rattle.std.specs.Prelude.{ℕ, Option, Result}
use Rattle.refusal.specs.declared.Refusal.{Refusal}
use Rattle.reading.specs.declared.Job.{Job}
use Rattle.reading.specs.declared.Extent.{Extent}

-- what a job text is, or the refusal
abbrev pub Reading : Type 0
Reading = Result Job Refusal

-- so many assets and rows
abbrev pub extent : ℕ → ℕ → Extent
extent n rows = record { assets = n; rows = rows }

-- the size of a block, if its lines have the form of one
abbrev pub Found : Type 0
Found = Option Extent
