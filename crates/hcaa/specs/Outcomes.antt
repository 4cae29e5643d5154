-- What a call answers, in the words of the definitions. Definitions only.
use Rattle.std.specs.Prelude.{ℕ, Option}

-- into how many clusters the tree is cut: into so many, or into all
abbrev pub Clusters : Type 0
Clusters = Option ℕ
