-- Document 01, last paragraph. Definitions only.
-- "For each answer that is an enum, a definition gives this paper's number and values for each of the enum's cases, and the promises use that definition."
use Rattle.std.specs.Prelude.{ℕ, List, [], ◌∷◌, Ok, Err}
use Rattle.refusal.specs.Refusal.{number_of, values_of}
use Rattle.refusal.specs.declared.Refusal.{Refusal}
use Rattle.refusal.specs.Table.{Outcome}

-- what an answer tells: 0 and what is answered, or a refusal's number and its values
pub record Telling (A : Type 0) : Type 0 where
  pub number : ℕ
  pub values : List ℕ
  pub answer : List A

abbrev pub accepts : {A : Type 0} → A → Telling A
accepts v = record { number = 0; values = []; answer = v ∷ [] }

-- "Each refusal returns its number (6 also the count asked and the assets)"
abbrev pub refuses : {A : Type 0} → Refusal → Telling A
refuses r = record { number = number_of r; values = values_of r; answer = [] }

-- what a call tells that would answer v, by how it went
abbrev pub tells : {A : Type 0} → Outcome → A → Telling A
tells (Ok _) v = accepts v
tells (Err r) v = refuses r

-- the case of no answer but that it is done
abbrev pub outcome_tells : Outcome → Telling Unit
outcome_tells o = tells o tt
