-- What a call answers, in the words of the definitions. Definitions only.
use Rattle.std.specs.Prelude.{ℕ, Result}
use Rattle.refusal.specs.declared.Refusal.{Refusal}

-- how many names there are now, or the refusal
abbrev pub Entered : Type 0
Entered = Result ℕ Refusal
