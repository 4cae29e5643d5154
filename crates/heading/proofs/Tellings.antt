-- What the clusters asked for, and a first line, tell. Assumes nothing.
use mathlib.Core.Path.{◌≡◌, refl, ap, ◌∙◌}
use mathlib.Core.Bool.{not}
use mathlib.Core.List.{List, [], ◌∷◌}
use Prim.Native.Nat.{ℕ}
use Rattle.refusal.specs.Table.{first, Outcome}
use Rattle.refusal.specs.Telling.{tells}
use Rattle.refusal.specs.declared.Refusal.{Refusal}
use Rattle.refusal.specs.declared.Refusal.TheVariants.{MalformedText}
use Rattle.heading.specs.Heading.{clusters_of, well_asked, asked_outcome, asked_tells, head_outcome, head_of, head_tells}
use Rattle.heading.specs.declared.Asked.{Asked}
use Rattle.heading.specs.declared.Asked.TheVariants as asked
use Rattle.heading.proofs.Judged.{head_as, head_is, head_kept}
use Rattle.std.specs.Prelude.{Ok, Err}
use Rattle.heading.specs.Outcomes.{Heading}
use Rattle.heading.specs.declared.Task.TheVariants as task

-- 0 and what is asked for, or 15
pub asked_tells_lem : (w : List ℕ) → asked_tells (clusters_of w) ≡ tells (asked_outcome w) (clusters_of w)
unfolding asked_outcome first
asked_tells_lem w = go (clusters_of w)
  where
    go : (a : Asked) → asked_tells a ≡ tells (first ((not (well_asked a), MalformedText) ∷ [])) a
    go asked.Malformed = refl
    go asked.All = refl
    go (asked.Count k) = refl

told_as : (o : Outcome) (h : Heading) → ((k : Refusal) → o ≡ Ok tt → h ≡ Err k → ⊥) → head_tells (head_as o h) ≡ tells o h
told_as (Ok _) (Err k) n = absurd (n k refl refl)
told_as (Ok _) (Ok (task.Hrp d)) n = refl
told_as (Ok _) (Ok (task.Hcaa l d)) n = refl
told_as (Err r) h n = refl

-- 0 and what the line asks for, or the number of what refuses it
pub head_tells_lem : (l : List ℕ) → head_tells (head_of l) ≡ tells (head_outcome l) (head_of l)
head_tells_lem l = ap head_tells (head_is l) ∙ told_as (head_outcome l) (head_of l) (λ k d. head_kept l d k)
