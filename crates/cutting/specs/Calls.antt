-- The report in lent buffers, with the bytes of a line that has begun: what the calls promise. Definitions only.
use Rattle.std.specs.Prelude.{ℕ, ◌+◌, ◌≡◌, not, cond, List, [], ◌∷◌, ltb, eqb, length, take, Ok, Err}
use Rattle.lent.specs.Grid.{noughts}
use Rattle.lent.specs.Lent.{laid}
use Rattle.refusal.specs.Table.{Line, first}
use Rattle.refusal.specs.declared.Refusal.TheVariants.{OverLimit, SliceLength, ShortBuffer, MalformedText}
use Rattle.slips.specs.Slips.{most_line}
use Rattle.ledger.specs.Ledger.{most_names, table_cells}
use Rattle.month.specs.Month.{Report, at, refused_by, go_on, opening}
use Rattle.month.specs.Calls.{books_of, progress_of, tally_of, table_left}
use Rattle.cutting.specs.Cutting.{Stream, bytes_taken}
use Rattle.cutting.specs.declared.Feed.{Feed}
use Rattle.month.specs.Outcomes.{Progress, fault}

-- 9: more names than a table has room for, or more bytes held than a line can have; 10: the table isn't 256 positions of seven numbers; 11: no room for the longest line and a byte
unfoldable pub feed_lines : ℕ → ℕ → ℕ → ℕ → List Line
feed_lines names n cells room =
    (ltb most_names names, OverLimit)
    ∷ (ltb most_line n, OverLimit)
    ∷ (not (eqb cells table_cells), SliceLength)
    ∷ (ltb room (most_line + 1), ShortBuffer)
    ∷ []

-- the report that the counts and the table stand for, beside n held bytes in a buffer of so much room
unfoldable pub feed_report : Progress → ℕ → List ℕ → ℕ → Report
unfolding feed_lines books_of
feed_report (Ok y) n t room = go_on (first (feed_lines y.names n (length t) room)) y.line (books_of y t)
feed_report (Err s) n t room = refused_by s.refusal s.line

unfoldable pub streaming : Feed → List ℕ → List ℕ → Stream
unfolding feed_report
streaming f t h = record { report = feed_report f.progress f.held t (length h); held = take f.held h }

-- once the report is refused nothing is held
unfoldable pub rested_by : Report → List ℕ → Stream
rested_by (at s) w = record { report = at s; held = w }
rested_by (refused_by r k) w = record { report = refused_by r k; held = [] }

-- bytes taken: a piece of the input
unfoldable pub fed_by : Stream → List ℕ → Stream
unfolding bytes_taken rested_by
fed_by f s = rested_by (bytes_taken f s).report (bytes_taken f s).held

-- pieces taken one after the other, each by a call
unfoldable pub pieces_fed : Stream → List (List ℕ) → Stream
unfolding fed_by
pieces_fed f [] = f
pieces_fed f (s ∷ ss) = pieces_fed (fed_by f s) ss

-- what a call answers: the counts, and how many bytes are held
unfoldable pub feed_of : Stream → Feed
unfolding progress_of
feed_of f = record { progress = progress_of f.report; held = length f.held }

-- a report begun
pub record FeedBegun (t h : List ℕ) (r : Feed) (t' h' : List ℕ) : Type 0 where
  pub answer : r ≡ record { progress = Ok (tally_of opening); held = 0 }
  pub table_is : t' ≡ noughts (length t)
  pub held_is : h' ≡ noughts (length h)

-- a piece taken: the answer, what the two buffers hold then, and that they stand for the report so far
pub record TookBytes (t h : List ℕ) (f : Feed) (s : List ℕ) (r : Feed) (t' h' : List ℕ) : Type 0 where
  pub answer : r ≡ feed_of (fed_by (streaming f t h) s)
  pub table_is : t' ≡ table_left (fed_by (streaming f t h) s).report t
  pub held_is : h' ≡ laid 0 (Ok tt) (length h) (fed_by (streaming f t h) s).held
  pub stands : streaming r t' h' ≡ fed_by (streaming f t h) s

-- "input .. that breaks off": a line that has begun and not ended
unfoldable pub ended_by : Progress → ℕ → Progress
ended_by (Ok y) n = cond (eqb n 0) (Ok y) (Err (fault MalformedText y.line))
ended_by (Err s) n = Err (fault s.refusal s.line)

-- the input's end: what the held bytes make of the counts, and zeros in their buffer
pub record FeedEnded (h : List ℕ) (f : Feed) (r : Progress) (h' : List ℕ) : Type 0 where
  pub answer : r ≡ ended_by f.progress f.held
  pub held_is : h' ≡ noughts (length h)
