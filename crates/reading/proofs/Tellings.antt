-- What the reading of a text tells. Assumes nothing.
use Prim.Native.Nat.{ℕ}
use mathlib.Core.Path.{◌≡◌, refl, sym, ap, ◌∙◌}
use mathlib.Core.List.{List}
use Rattle.refusal.specs.Telling.{tells}
use Rattle.refusal.specs.declared.Refusal.{Refusal}
use Rattle.refusal.proofs.Tables.{done_refused}
use Rattle.reading.specs.Reading.{ReadRoom, read_outcome, job_in, read_as, read_of, reading_tells}
use Rattle.reading.proofs.Accepted.{read_refused}
use Rattle.std.specs.Prelude.{Ok, Err}
use Rattle.reading.specs.Outcomes.{Reading}
use Rattle.refusal.specs.Table.{Outcome}
use Rattle.reading.specs.declared.Job.TheVariants as jobs

read_tells : (o : Outcome) (j : Reading) → ((k : Refusal) → o ≡ Ok tt → j ≡ Err k → ⊥) → reading_tells (read_as o j) ≡ tells o j
read_tells (Ok _) (Err k) h = absurd (h k refl refl)
read_tells (Ok _) (Ok (jobs.Hrp b d)) h = refl
read_tells (Ok _) (Ok (jobs.Hcaa b l d)) h = refl
read_tells (Err r) j h = refl

-- 0 and the job, or the number of what refuses the text
pub reading_tells_lem : (text : List ℕ) (room : ReadRoom) → reading_tells (read_of text room) ≡ tells (read_outcome text room) (job_in text)
unfolding read_of
reading_tells_lem text room =
    read_tells (read_outcome text room) (job_in text)
    (λ k d e. done_refused k (sym d ∙ read_refused text room k (ap (λ (o : Outcome). read_as o (job_in text)) d ∙ e)))
