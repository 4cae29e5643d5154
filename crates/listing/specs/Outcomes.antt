-- What a call answers, in the words of the definitions. Definitions only.
use Rattle.std.specs.Prelude.{ℕ, Option, Result}
use Rattle.refusal.specs.declared.Refusal.{Refusal}

-- how many bytes were written, or why none were
abbrev pub Listed : Type 0
Listed = Result ℕ Refusal

-- a ceiling, where the assets have them
abbrev pub Ceiling : Type 0
Ceiling = Option ℕ
