-- The laws of tables of refusals. Assumes nothing.
use Prim.Native.Nat.{ℕ}
use mathlib.Core.Path.{◌≡◌, refl, sym, ◌∙◌}
use mathlib.Core.Bool.{Bool, true, false}
use mathlib.Core.List.{List, [], ◌∷◌, ◌++◌}
use native.Mathlib.Omega.{arith}
use Rattle.refusal.specs.Table.{Line, first, or_else, and_then, Outcome}
use Rattle.refusal.specs.declared.Refusal.{Refusal}
use Rattle.std.specs.Prelude.{Ok, Err}

-- a call cannot be done and refused
pub done_refused : (r : Refusal) → ◌≡◌ {A = Outcome} (Ok tt) (Err r) → ⊥
done_refused r e = let z : ◌≡◌ {A = ℕ} 0 1 = cc in omega arith

-- ---- a table, line by line

pub table_end : first [] ≡ Ok tt
unfolding first
table_end = refl

pub table : (t : Bool) (r : Refusal) (l : List Line) → first ((t, r) ∷ l) ≡ or_else t r (first l)
unfolding first or_else
table true r l = refl
table false r l = refl

pub table_hit : (t : Bool) (r : Refusal) (l : List Line) → t ≡ true → first ((t, r) ∷ l) ≡ Err r
unfolding first
table_hit t r l e = rw e

pub table_pass : (t : Bool) (r : Refusal) (l : List Line) → t ≡ false → first ((t, r) ∷ l) ≡ first l
unfolding first
table_pass t r l e = rw e

-- a table that is said by `refuse` from the last line to the first: t is the test as the code has it, u as the table has it
pub said_line : (t u : Bool) (x : Refusal) (lines : List Line) (rest o : Outcome) → t ≡ u → rest ≡ first lines → o ≡ or_else t x rest → o ≡ first ((u, x) ∷ lines)
said_line t u x lines rest o e f g = simp (table) (cc)

pub said_last : (t u : Bool) (x : Refusal) (o : Outcome) → t ≡ u → o ≡ or_else t x (Ok tt) → o ≡ first ((u, x) ∷ [])
said_last t u x o e g = simp (table, table_end) (cc)

-- ---- what a call that no test refuses knows

-- each test of the table is false: a tuple nested to the right, `.0`, `.1 .0`, ..
abbrev pub AllNo : List Line → Type 0
AllNo [] = Unit
AllNo ((t, r) ∷ l) = (t ≡ false) × AllNo l

pub none : (l : List Line) → first l ≡ Ok tt → AllNo l
unfolding first
none [] e = tt
none ((true, r) ∷ l) e = absurd (let z : ◌≡◌ {A = ℕ} 0 1 = cc in omega arith)
none ((false, r) ∷ l) e = (refl, none l e)

-- ---- a table that goes on

pub first_append : (a b : List Line) → first (a ++ b) ≡ and_then (first a) (first b)
unfolding first and_then
first_append [] b = refl
first_append ((true, r) ∷ a) b = refl
first_append ((false, r) ∷ a) b = first_append a b

pub first_done : (a b : List Line) → first a ≡ Ok tt → first (a ++ b) ≡ first b
unfolding and_then
first_done a b e = rw (first_append a b, e)

pub first_refused : (a b : List Line) (r : Refusal) → first a ≡ Err r → first (a ++ b) ≡ Err r
unfolding and_then
first_refused a b r e = rw (first_append a b, e)

-- ---- stages

pub then_done : (a b : Outcome) → a ≡ Ok tt → and_then a b ≡ b
unfolding and_then
then_done a b e = rw e

pub then_refused : (a b : Outcome) (r : Refusal) → a ≡ Err r → and_then a b ≡ Err r
unfolding and_then
then_refused a b r e = rw e

pub both_done : (a b : Outcome) → and_then a b ≡ Ok tt → (a ≡ Ok tt) × (b ≡ Ok tt)
unfolding and_then
both_done (Ok _) b e = (refl, e)
both_done (Err r) b e = absurd (let z : ◌≡◌ {A = ℕ} 0 1 = cc in omega arith)

-- both parts of a table that is done
pub parts_done : (a b : List Line) → first (a ++ b) ≡ Ok tt → (first a ≡ Ok tt) × (first b ≡ Ok tt)
parts_done a b e = both_done (first a) (first b) (sym (first_append a b) ∙ e)
