-- What a call answers, in the words of the definitions. Definitions only.
use Rattle.std.specs.Prelude.{ℕ, Option, Result}
use Rattle.refusal.specs.declared.Refusal.{Refusal}
use Rattle.linkage.specs.declared.Distance.{Distance}
use Rattle.linkage.specs.declared.Linkage.{Linkage}
use Rattle.linkage.specs.declared.Merged.{Merged}

-- the distance of a name, or the refusal
abbrev pub NamedDistance : Type 0
NamedDistance = Result Distance Refusal

-- the linkage of a name, or the refusal
abbrev pub NamedLinkage : Type 0
NamedLinkage = Result Linkage Refusal

-- the rows made and the pairs looked at
abbrev pub merged : ℕ → ℕ → Merged
merged rows pairs = record { rows = rows; pairs = pairs }

-- what the merge step answers
abbrev pub Joined : Type 0
Joined = Result Merged Refusal

-- what the triangle gave: the pairs looked at, or nothing, where some cell is not its mirror
abbrev pub Tried : Type 0
Tried = Option ℕ
