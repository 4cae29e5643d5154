-- Stages of a call, and the number that each tells. Assumes nothing.
use Prim.Native.Nat.{ℕ}
use mathlib.Core.Path.{◌≡◌, refl}
use Rattle.refusal.specs.Table.{and_then, Outcome}
use Rattle.refusal.specs.Telling.{tells, outcome_tells}
use Rattle.std.specs.Prelude.{Ok, Err}

-- `simp then_assoc brings stages that were joined in any way into their order
pub then_assoc : (a b c : Outcome) → and_then (and_then a b) c ≡ and_then a (and_then b c)
unfolding and_then
then_assoc (Ok _) b c = refl
then_assoc (Err r) b c = refl

-- a stage a that is judged before names, which are done, and once more at the head of what comes after them
pub then_again : (a names rest o : Outcome) → names ≡ Ok tt → o ≡ and_then a rest → and_then a (and_then names o) ≡ o
unfolding and_then
then_again (Ok _) names rest o d e = rw d
then_again (Err r) names rest o d e = rw e

abbrev pub number_in : Outcome → ℕ
number_in o = (outcome_tells o).number

-- whatever is answered beside it
pub told_number : {A : Type 0} (o : Outcome) (v : A) → (tells o v).number ≡ number_in o
told_number (Ok _) v = refl
told_number (Err r) v = refl
