-- Document 02, request 5: "one page over up to 200 jobs", line by line. Definitions only.
use Rattle.std.specs.Prelude.{ℕ, ◌+◌, ◌-◌, Bool, true, not, cond, ◌||◌, List, [], ◌∷◌, ltb, eqb, length, take, Ok, Err}
use Rattle.refusal.specs.Table.{Line, first, Outcome}
use Rattle.refusal.specs.declared.Refusal.{Refusal}
use Rattle.refusal.specs.declared.Refusal.TheVariants.{OverLimit, MalformedText}
use Rattle.fields.specs.Split.{newline, tabulator, split, piece, last_piece}
use Rattle.keys.specs.Keys.{key_of}
use Rattle.ledger.specs.Ledger.{entered, entered_lines, most_added}
use Rattle.ledger.specs.declared.Position.{Position}
use Rattle.ledger.specs.declared.Lot.{Lot}
use Rattle.slips.specs.Slips.{slip_of}
use Rattle.slips.specs.declared.Slip.{Slip}
use Rattle.slips.specs.declared.Slip.TheVariants as slip

-- where the report stands between two lines
pub record Books : Type 0 where
  -- what is kept of each name
  pub positions : List Position
  -- the jobs begun, "refused ones count", and those accepted
  pub jobs : ℕ
  pub accepted : ℕ
  -- the open job's lines and their millionths; no job is open at 0 lines
  pub lines : ℕ
  pub sum : ℕ
  -- the number of the line to come, the first being 1
  pub line : ℕ

unfoldable pub opening : Books
opening = record { positions = []; jobs = 0; accepted = 0; lines = 0; sum = 0; line = 1 }

abbrev pub is_open : Books → Bool
is_open s = not (eqb s.lines 0)

-- "9 over 200 jobs"
abbrev pub most_jobs : ℕ
most_jobs = 200

-- "1,000,000 times the accepted jobs"
abbrev pub million : ℕ
million = 1000000

-- the number of the job that a holding belongs to: the open one's, or the next
unfoldable pub job_number : Books → ℕ
job_number s = cond (is_open s) s.jobs (s.jobs + 1)

-- a holding of so many millionths of the name w
unfoldable pub lot_in : Books → List ℕ → ℕ → Lot
unfolding key_of job_number
lot_in s w m = record { name = key_of w; millionths = m; job = job_number s }

-- ---- the books after a line

-- a holding is entered at once: where its job is not accepted, nothing is
unfoldable pub after_held : Books → List ℕ → ℕ → Books
unfolding entered job_number lot_in
after_held s w m =
    record {
      positions = entered s.positions (lot_in s w m);
      jobs = job_number s;
      accepted = s.accepted;
      lines = s.lines + 1;
      sum = s.sum + m;
      line = s.line + 1;
    }

-- "each job's lines end with its `order` line"
unfoldable pub after_order : Books → Books
after_order s = record { positions = s.positions; jobs = s.jobs; accepted = s.accepted + 1; lines = 0; sum = 0; line = s.line + 1 }

-- "a `refused` line counts as a refused job"
unfoldable pub after_refused : Books → Books
after_refused s = record { positions = s.positions; jobs = s.jobs + 1; accepted = s.accepted; lines = s.lines; sum = s.sum; line = s.line + 1 }

unfoldable pub after_slip : Books → List ℕ → Slip → Books
unfolding after_held after_order after_refused
after_slip s w slip.Other = s
after_slip s w (slip.Held m) = after_held s w m
after_slip s w (slip.Order k) = after_order s
after_slip s w slip.Refused = after_refused s

-- ---- the refusals of a line, "15 before 9 on it"

-- a count is past what can be added to, which no report reaches
unfoldable pub over_counted : Books → Bool
over_counted s = ltb most_added s.accepted || (ltb most_added s.lines || (ltb most_added s.sum || ltb most_added s.line))

unfoldable pub slip_lines : Books → List ℕ → Slip → List Line
unfolding job_number lot_in entered_lines over_counted
-- "15 for a line of another form"
slip_lines s w slip.Other = (true, MalformedText) ∷ []
-- "9 over 200 jobs (refused ones count) or 256 names": a job counts from its first line on
slip_lines s w (slip.Held m) = (ltb most_jobs (job_number s), OverLimit) ∷ (over_counted s, OverLimit) ∷ entered_lines s.positions (lot_in s w m)
-- "an `order` line with another number of names than the job has lines", "millionths of an accepted job that don't total 1,000,000"
slip_lines s w (slip.Order k) =
    (not (eqb k s.lines), MalformedText) ∷ (not (eqb s.sum million), MalformedText) ∷ (over_counted s, OverLimit) ∷ []
-- "a `refused` line that breaks off a job"
slip_lines s w slip.Refused = (is_open s, MalformedText) ∷ (ltb most_jobs (s.jobs + 1), OverLimit) ∷ (over_counted s, OverLimit) ∷ []

-- ---- the report: the books so far, or the refusal and the number of the line at fault

pub data Report : Type 0 where
  at : Books → Report
  refused_by : Refusal → ℕ → Report

abbrev pub go_on : Outcome → ℕ → Books → Report
go_on (Ok _) k s = at s
go_on (Err r) k s = refused_by r k

-- one line, its name in the first field
unfoldable pub book_line : Books → List ℕ → Report
unfolding slip_lines after_slip slip_of split first
book_line s l = go_on (first (slip_lines s (piece tabulator l 0) (slip_of l))) s.line (after_slip s (piece tabulator l 0) (slip_of l))

-- "decided by the first line at fault"
abbrev pub line_taken : Report → List ℕ → Report
line_taken (at s) l = book_line s l
line_taken (refused_by r k) l = refused_by r k

unfoldable pub lines_taken : Report → List (List ℕ) → Report
unfolding book_line
lines_taken r [] = r
lines_taken r (l ∷ ls) = lines_taken (line_taken r l) ls

-- "input .. that breaks off a job": first by a line that has no end, then by a job that has none
unfoldable pub broken_off : Report → List ℕ → Report
broken_off (at s) [] = at s
broken_off (at s) (b ∷ w) = refused_by MalformedText s.line
broken_off (refused_by r k) w = refused_by r k

unfoldable pub closed : Report → Report
closed (at s) = cond (is_open s) (refused_by MalformedText s.line) (at s)
closed (refused_by r k) = refused_by r k

-- ---- the whole input: "lines ended by a newline"

unfoldable pub whole_lines : List ℕ → List (List ℕ)
unfolding split
whole_lines text = take (length (split newline text) - 1) (split newline text)

unfoldable pub report_on : Report → List ℕ → Report
unfolding lines_taken whole_lines broken_off closed split
report_on r text = closed (broken_off (lines_taken r (whole_lines text)) (last_piece newline text))

unfoldable pub report_of : List ℕ → Report
unfolding report_on opening
report_of text = report_on (at opening) text
