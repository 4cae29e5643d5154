-- What the private functions ask of one another and promise: may be skipped. Definitions only.
use Rattle.std.specs.Prelude.{ℕ, suc, cond, List, [], ◌∷◌, ◌++◌, ◌≡◌, length, take, drop, Ok, Err}
use Rattle.lent.specs.Grid.{over}
use Rattle.keys.specs.Keys.{key_before}
use Rattle.keys.specs.declared.Key.{Key}
use Rattle.ledger.specs.Ledger.{table_of}
use Rattle.ledger.specs.declared.Position.{Position}
use Rattle.ledger.specs.Outcomes.{Entered}
use Rattle.refusal.specs.Table.{Outcome}

-- the place of the first position whose name is not before the given one
unfoldable pub key_place : List Position → Key → ℕ
unfolding key_before
key_place [] x = 0
key_place (p ∷ l) x = cond (key_before p.name x) (suc (key_place l x)) 0

-- p put in at place k
unfoldable pub insert_at : ℕ → Position → List Position → List Position
insert_at k p l = take k l ++ p ∷ drop k l

-- the positions that a step leaves in the table
unfoldable pub step_left : Outcome → List Position → List Position → List Position
unfolding over
step_left (Ok _) l old = over l old
step_left (Err r) l old = old

-- what a judged step leaves: a table of the right length with those positions, or the table as it was
pub record StepLeft (o : Outcome) (l : List Position) (t t' : List ℕ) : Type 0 where
  pub done : o ≡ Ok tt → t' ≡ over (table_of l) t
  pub same : length t' ≡ length t

-- how many names an answer tells of; a refusal of none
abbrev pub names_after : Entered → ℕ
names_after (Ok n) = n
names_after (Err r) = 0
