-- The report in lent buffers: what a table and its counts stand for, and what the calls promise. Definitions only.
use Rattle.std.specs.Prelude.{ℕ, ◌≡◌, List, length, Result, Ok, Err}
use Rattle.lent.specs.Grid.{noughts}
use Rattle.lent.specs.Lent.{laid}
use Rattle.refusal.specs.Table.{first}
use Rattle.refusal.specs.declared.Refusal.{Refusal}
use Rattle.refusal.specs.Telling.{Telling, accepts, refuses}
use Rattle.ledger.specs.Ledger.{table_lines, first_ones, table_of}
use Rattle.month.specs.Month.{Books, opening, Report, at, refused_by, go_on, line_taken}
use Rattle.month.specs.declared.Fault.{Fault}
use Rattle.month.specs.declared.Tally.{Tally}
use Rattle.month.specs.Outcomes.{Progress, fault}

-- what was said of line k, with its number where it was refused
abbrev pub at_line : {A : Type 0} → Result A Refusal → ℕ → Result A Fault
at_line (Ok x) k = Ok x
at_line (Err r) k = Err (fault r k)

-- how many names the counts say that there are; a refusal none
abbrev pub names_held : Progress → ℕ
names_held (Ok y) = y.names
names_held (Err s) = 0

-- the books that a table and its counts stand for
unfoldable pub books_of : Tally → List ℕ → Books
unfolding first_ones
books_of y t = record { positions = first_ones y.names t; jobs = y.jobs; accepted = y.accepted; lines = y.lines; sum = y.sum; line = y.line }

-- 10 and 9: a table, or a number of names, that no report has
unfoldable pub standing : Progress → List ℕ → Report
unfolding books_of table_lines
standing (Ok y) t = go_on (first (table_lines (length t) y.names)) y.line (books_of y t)
standing (Err s) t = refused_by s.refusal s.line

unfoldable pub tally_of : Books → Tally
tally_of s = record { names = length s.positions; jobs = s.jobs; accepted = s.accepted; lines = s.lines; sum = s.sum; line = s.line }

unfoldable pub progress_of : Report → Progress
unfolding tally_of
progress_of (at s) = Ok (tally_of s)
progress_of (refused_by r k) = Err (fault r k)

-- what the answer tells: 0 and the counts, or the refusal's number
abbrev pub progress_tells : Progress → Telling Tally
progress_tells (Ok y) = accepts y
progress_tells (Err s) = refuses s.refusal

-- what a call leaves in the table: the positions and zeros after them; "leaves every lent answer .. entry zero" where it is refused
unfoldable pub table_left : Report → List ℕ → List ℕ
unfolding laid table_of
table_left (at s) t = laid 0 (Ok tt) (length t) (table_of s.positions)
table_left (refused_by r k) t = noughts (length t)

-- a report begun
pub record Begun (t : List ℕ) (r : Progress) (t' : List ℕ) : Type 0 where
  pub answer : r ≡ Ok (tally_of opening)
  pub table_is : t' ≡ noughts (length t)

-- a line taken: the answer, what the table holds then, and that both stand for the report after the line
pub record TookLine (t : List ℕ) (p : Progress) (l : List ℕ) (r : Progress) (t' : List ℕ) : Type 0 where
  pub answer : r ≡ progress_of (line_taken (standing p t) l)
  pub table_is : t' ≡ table_left (line_taken (standing p t) l) t
  pub stands : standing r t' ≡ line_taken (standing p t) l
