-- What the private functions ask of one another and promise: may be skipped. Definitions only.
use Rattle.std.specs.Prelude.{ℕ, ◌*◌, ◌≤◌, ◌≡◌, List, [], ◌∷◌, ltb, length, take}
use Rattle.refusal.specs.Table.{Line, first}
use Rattle.refusal.specs.declared.Refusal.TheVariants.{OverLimit}
use Rattle.ledger.specs.Ledger.{table_of}
use Rattle.slips.specs.declared.Slip.{Slip}
use Rattle.slips.specs.declared.Slip.TheVariants as slip
use Rattle.month.specs.Month.{Books, most_jobs, job_number, over_counted, slip_lines, after_slip, Report, at, go_on, million}
use Rattle.month.specs.Calls.{progress_of}
use Rattle.month.specs.declared.Tally.{Tally}
use Rattle.month.specs.Outcomes.{Progress}

-- 9 of a holding's line, but for its name
unfoldable pub limit_lines : Books → List Line
unfolding job_number over_counted
limit_lines s = (ltb most_jobs (job_number s), OverLimit) ∷ (over_counted s, OverLimit) ∷ []

-- a line that was read, its name w
unfoldable pub book_slip : Books → List ℕ → Slip → Report
unfolding slip_lines after_slip first
book_slip s w k = go_on (first (slip_lines s w k)) s.line (after_slip s w k)

-- a step on the way to R: the answer, and where R goes on its positions at the table's front
pub record Stepped (R : Report) (t : List ℕ) (r : Progress) (t' : List ℕ) : Type 0 where
  pub answer : r ≡ progress_of R
  pub table_is : (s : Books) → R ≡ at s → take (length s.positions * 7) t' ≡ table_of s.positions
  pub same : length t' ≡ length t

-- a table and a number of names that a report has
pub record Fits (t : List ℕ) (y : Tally) : Type 0 where
  pub long : length t ≡ 1792
  pub few : y.names ≤ 256

-- a holding's millionths, by its form
abbrev pub SmallSlip : Slip → Type 0
SmallSlip slip.Other = Unit
SmallSlip (slip.Held m) = m ≤ million
SmallSlip (slip.Order k) = Unit
SmallSlip slip.Refused = Unit
