-- What a call answers, in the words of the definitions. Definitions only.
use Rattle.std.specs.Prelude.{Result}
use Rattle.refusal.specs.declared.Refusal.{Refusal}
use Rattle.heading.specs.declared.Task.{Task}

-- what a first line asks for, or the refusal
abbrev pub Heading : Type 0
Heading = Result Task Refusal
