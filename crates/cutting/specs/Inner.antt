-- What the private functions ask of one another and promise: may be skipped. Definitions only.
use Rattle.std.specs.Prelude.{ℕ, ◌-◌, ◌≡◌, List, ◌++◌, length, take, Ok, Err}
use Rattle.lent.specs.Grid.{noughts}
use Rattle.ledger.specs.Ledger.{cleared_past}
use Rattle.month.specs.Calls.{standing, progress_of}
use Rattle.cutting.specs.Cutting.{Stream}
use Rattle.cutting.specs.declared.Feed.{Feed}
use Rattle.month.specs.Outcomes.{Progress, fault}

-- the counts f, the table t and the held bytes h on the way of the stream S, which began with a table as long as t₀
pub record Running (S : Stream) (t₀ : List ℕ) (f : Feed) (t h : List ℕ) : Type 0 where
  pub answer : f.progress ≡ progress_of S.report
  pub stands : standing f.progress t ≡ S.report
  pub same : length t ≡ length t₀
  pub held_is : take f.held h ≡ S.held

-- what a call ends with: after a refusal zeros, and nothing held; else the names and the held bytes, each with zeros after them
abbrev pub SettledBy : Progress → ℕ → List ℕ → List ℕ → Feed → List ℕ → List ℕ → Type 0
SettledBy (Ok y) n t h r t' h' = (r ≡ record { progress = Ok y; held = n }) × (t' ≡ cleared_past y.names t) × (h' ≡ take n h ++ noughts (length h - n))
SettledBy (Err s) n t h r t' h' = (r ≡ record { progress = Err (fault s.refusal s.line); held = 0 }) × (t' ≡ noughts (length t)) × (h' ≡ noughts (length h))

abbrev pub Settled : Feed → List ℕ → List ℕ → Feed → List ℕ → List ℕ → Type 0
Settled f t h r t' h' = SettledBy f.progress f.held t h r t' h'
