-- What a call answers, in the words of the definitions. Definitions only.
use Rattle.std.specs.Prelude.{Result, Float}
use Rattle.refusal.specs.declared.Refusal.{Refusal}

-- a variance or a ratio, or the refusal
abbrev pub Risk : Type 0
Risk = Result Float Refusal
