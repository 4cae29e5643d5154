-- What a report is right by: what holds between any two lines. Definitions only.
use Rattle.std.specs.Prelude.{◌+◌, ◌*◌, ◌<◌, ◌≤◌, ◌≡◌, length}
use Rattle.ledger.specs.Ledger.{most_names}
use Rattle.ledger.specs.Meaning.{InOrder, Dated, totals}
use Rattle.month.specs.Month.{Books, most_jobs, million}

pub record Sound (s : Books) : Type 0 where
  -- "The totals over all names equal 1,000,000 times the accepted jobs", and what the open job has so far
  pub summed : totals s.positions ≡ million * s.accepted + s.sum
  -- where no job is open, nothing is in one
  pub closed : s.lines ≡ 0 → s.sum ≡ 0
  -- "Names are listed in byte order", each once
  pub in_order : InOrder s.positions
  -- at most 256 names
  pub names : length s.positions ≤ most_names
  -- at most 200 jobs
  pub few : s.jobs ≤ most_jobs
  -- no more jobs are accepted than begun
  pub counted : s.accepted ≤ s.jobs
  -- an open job is begun and not yet accepted
  pub begun : (s.lines ≡ 0 → ⊥) → s.accepted < s.jobs
  -- no name has more jobs than were begun by its last
  pub dated : Dated s.jobs s.positions
