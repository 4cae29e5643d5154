-- What the private functions ask of one another and promise: may be skipped. Definitions only.
use Rattle.std.specs.Prelude.{ℕ, ◌-◌, ◌*◌, ◌≤◌, ◌≡◌, false, List, length, take, Float, Ok, Err}
use Rattle.refusal.specs.Table.{and_then, Outcome}
use Rattle.lent.specs.Grid.{noughts}
use Rattle.reading.specs.Reading.{assets, cells_in, starts_in, ceilings_in, read_outcome, job_in, read_of}
use Rattle.reading.specs.declared.Block.{Block}
use Rattle.listing.specs.Listing.{ListingMade}
use Rattle.job.specs.declared.Allotment.{Allotment}
use Rattle.job.specs.declared.Form.{Form}
use Rattle.job.specs.Job.{room_of_reader, allocator_says, job_weights, job_order, job_rows, least_for, job_outcome, printed_of}
use Rattle.listing.specs.Outcomes.{Listed}
use Rattle.reading.specs.Outcomes.{Reading}
use Rattle.reading.specs.declared.Job.TheVariants as jobs

-- a cleared buffer that holds everything of a form
pub record BlankListing (f : Form) (out : List ℕ) : Type 0 where
  pub room : least_for f ≤ length out
  pub zero : out ≡ noughts (length out)

-- a job that was read from a text, and its cells
pub record Read (text : List ℕ) (job : Reading) (cells : List Float) : Type 0 where
  pub done : read_outcome text room_of_reader ≡ Ok tt
  pub is : job_in text ≡ job
  pub cells_are : cells ≡ cells_in text

-- the allocator's answer for such a job, at the front of buffers of 126 and 64
pub record AllocatorAnswer (text rows order : List ℕ) (weights : List Float) : Type 0 where
  pub rows_are : take (2 * (assets text - 1)) rows ≡ job_rows text (job_in text)
  pub weights_are : take (assets text) weights ≡ job_weights text (job_in text)
  pub order_is : take (assets text) order ≡ job_order text (job_in text)

-- what stands after the first line: nothing, where the text was refused
unfoldable pub block_read : Reading → Block
block_read (Err r) = record { assets = 0; rows = 0; priced = false; ceiled = false }
block_read (Ok (jobs.Hrp b d)) = b
block_read (Ok (jobs.Hcaa b l d)) = b

-- a reader's answer, and the cells of an accepted text
pub record Held (text : List ℕ) (said : Reading) (cells : List Float) : Type 0 where
  pub is : said ≡ read_of text room_of_reader
  pub cells_are : read_outcome text room_of_reader ≡ Ok tt → cells ≡ cells_in text

-- where the names of an accepted text begin, and its ceilings
pub record Placed (text starts ceilings : List ℕ) : Type 0 where
  pub places : read_outcome text room_of_reader ≡ Ok tt → starts ≡ starts_in text
  pub limits : read_outcome text room_of_reader ≡ Ok tt → ceilings ≡ ceilings_in text

-- what the reader says, and then the allocator
unfoldable pub text_says : List ℕ → Outcome
unfolding read_outcome allocator_says job_in
text_says text = and_then (read_outcome text room_of_reader) (allocator_says text (job_in text))

-- what was said of a text, and where it is accepted the allocator's answer
pub record Allotted (text : List ℕ) (found : Allotment) : Type 0 where
  pub is : found.said ≡ text_says text
  pub answer : found.said ≡ Ok tt → AllocatorAnswer text found.rows found.order found.weights

-- what a call promises of its buffer
abbrev pub Told : List ℕ → Form → ℕ → Listed → List ℕ → Type 0
Told text f room r out = ListingMade (job_outcome text f room) (printed_of text f) room r out
