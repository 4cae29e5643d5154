-- Document 01, "Order": refusals as a table, a test and a refusal for each line, in order. Definitions only.
use Rattle.std.specs.Prelude.{Bool, true, false, List, [], ◌∷◌, Result, Ok, Err}
use Rattle.refusal.specs.declared.Refusal.{Refusal}

-- a line of a table: where the test is true, the refusal is given
abbrev pub Line : Type 0
Line = Bool × Refusal

-- how a call went: done, or refused
abbrev pub Outcome : Type 0
Outcome = Result Unit Refusal

-- the refusal of the first line whose test is true; done where none is
unfoldable pub first : List Line → Outcome
first [] = Ok tt
first ((true, r) ∷ l) = Err r
first ((false, r) ∷ l) = first l

-- one line, and what the lines after it say
unfoldable pub or_else : Bool → Refusal → Outcome → Outcome
or_else true r rest = Err r
or_else false r rest = rest

-- two stages: the second's outcome counts where the first is done
unfoldable pub and_then : Outcome → Outcome → Outcome
and_then (Ok _) o = o
and_then (Err r) o = Err r
