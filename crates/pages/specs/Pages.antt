-- Document 02, request 5: "one page". Definitions only.
use Rattle.std.specs.Prelude.{ℕ, ◌+◌, ◌-◌, ◌*◌, ◌≡◌, not, cond, List, [], ◌∷◌, ◌++◌, ltb, eqb, length, get_or, Ok, Err}
use Rattle.lent.specs.Grid.{noughts}
use Rattle.refusal.specs.Table.{Line, first, and_then, Outcome}
use Rattle.refusal.specs.declared.Refusal.TheVariants.{OverLimit, SliceLength, ShortBuffer}
use Rattle.text.specs.Bytes.{bytes}
use Rattle.fields.specs.Split.{newline, tabulator}
use Rattle.writing.specs.Writing.{decimal, joined}
use Rattle.keys.specs.Keys.{key_bytes}
use Rattle.ledger.specs.Ledger.{most_names, blank, table_cells}
use Rattle.ledger.specs.declared.Position.{Position}
use Rattle.ledger.specs.Meaning.{totals}
use Rattle.slips.specs.Slips.{most_line}
use Rattle.month.specs.Month.{Books, million, Report, at, refused_by, closed, report_of}
use Rattle.month.specs.Calls.{standing}
use Rattle.listing.specs.Listing.{ListingMade}
use Rattle.listing.specs.Outcomes.{Listed}
use Rattle.month.specs.Outcomes.{Progress}

-- ---- the page: tabs between, numbers without leading zeros

-- a number after its tab
unfoldable pub figure : ℕ → List ℕ
unfolding decimal
figure n = (tabulator ∷ []) ++ decimal n

-- first line `jobs`, accepted, refused
unfoldable pub jobs_line : ℕ → ℕ → List ℕ
unfolding figure
jobs_line accepted refused = bytes "jobs" ++ figure accepted ++ figure refused ++ (newline ∷ [])

-- "For each asset name: the number of jobs that hold it, the smallest, largest and total weight of its holdings in millionths"
unfoldable pub position_line : Position → List ℕ
unfolding key_bytes figure
position_line p = key_bytes p.name ++ figure p.jobs ++ figure p.smallest ++ figure p.largest ++ figure p.total ++ (newline ∷ [])

-- "Names are listed in byte order"
unfoldable pub page_of : Books → List ℕ
unfolding jobs_line joined position_line
page_of s = jobs_line s.accepted (s.jobs - s.accepted) ++ joined (length s.positions) (λ i. position_line (get_or s.positions i blank))

unfoldable pub page_in : Report → List ℕ
unfolding page_of
page_in (at s) = page_of s
page_in (refused_by r k) = []

unfoldable pub report_says : Report → Outcome
report_says (at s) = Ok tt
report_says (refused_by r k) = Err r

-- ---- the calls

-- 32,768 bytes hold every page
abbrev pub least_page : ℕ
least_page = 32768

-- how many names the counts say that there are
unfoldable pub names_in : Progress → ℕ
names_in (Ok y) = y.names
names_in (Err s) = 0

-- 9: more names than a table has room for; 10: the table isn't 256 positions of seven numbers; 11
unfoldable pub page_lines : ℕ → ℕ → ℕ → List Line
page_lines names cells room = (ltb most_names names, OverLimit) ∷ (not (eqb cells table_cells), SliceLength) ∷ (ltb room least_page, ShortBuffer) ∷ []

-- then what the report says at its end
unfoldable pub end_outcome : Progress → List ℕ → ℕ → Outcome
unfolding names_in page_lines report_says standing closed
end_outcome p t room = and_then (first (page_lines (names_in p) (length t) room)) (report_says (closed (standing p t)))

-- a report ended: its page, or the refusal; and the table is zero
pub record ReportEnded (t : List ℕ) (p : Progress) (room : ℕ) (r : Listed) (t' page : List ℕ) : Type 0 where
  pub made : ListingMade (end_outcome p t room) (page_in (closed (standing p t))) room r page
  pub table_is : t' ≡ noughts (length t)

-- the number of the line at fault where the report ends so; of an open job the line that is missing
unfoldable pub fault_line : Progress → ℕ
fault_line (Ok y) = cond (eqb y.lines 0) 0 y.line
fault_line (Err s) = s.line

-- ---- a whole input by one call

-- 10: the table isn't 256 positions of seven numbers; 11: the page, and the room for the longest line and a byte
unfoldable pub report_lines : ℕ → ℕ → ℕ → List Line
report_lines cells longest room = (not (eqb cells table_cells), SliceLength) ∷ (ltb room least_page, ShortBuffer) ∷ (ltb longest (most_line + 1), ShortBuffer) ∷ []

-- then what the report says
unfoldable pub report_outcome : List ℕ → ℕ → ℕ → ℕ → Outcome
unfolding report_lines report_says report_of
report_outcome text cells longest room = and_then (first (report_lines cells longest room)) (report_says (report_of text))

-- the input's page, or the refusal; the table and the held bytes are zero
pub record TextReported (text t h : List ℕ) (room : ℕ) (r : Listed) (t' h' page : List ℕ) : Type 0 where
  pub made : ListingMade (report_outcome text (length t) (length h) room) (page_in (report_of text)) room r page
  pub table_is : t' ≡ noughts (length t)
  pub held_is : h' ≡ noughts (length h)
  -- "The totals over all names equal 1,000,000 times the accepted jobs."
  pub adds_up : (s : Books) → report_of text ≡ at s → totals s.positions ≡ million * s.accepted
