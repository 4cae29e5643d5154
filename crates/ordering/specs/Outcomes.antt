-- What a call answers, in the words of the definitions. Definitions only.
use Rattle.std.specs.Prelude.{Result, Float}
use Rattle.refusal.specs.declared.Refusal.{Refusal}

-- an entry of a list, or the refusal
abbrev pub Entry : Type 0
Entry = Result Float Refusal
