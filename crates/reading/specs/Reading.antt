-- Document 01, "Millionths and the job program": what a job text says. Document 02, request 8: decimals, and a prices block in place of the covariance; request 10: ceilings. Definitions only.
use Rattle.std.specs.Prelude.{ℕ, zero, suc, ◌+◌, ◌-◌, ◌*◌, ◌≡◌, Bool, not, cond, ◌&&◌, ◌||◌, List, [], ◌∷◌, ◌++◌, leb, ltb, eqb, length, take, drop, Float, Ok, Err}
use Rattle.arithmetic.specs.Constants.{pz}
use Rattle.refusal.specs.Table.{Line, first, Outcome}
use Rattle.refusal.specs.Telling.{Telling, accepts, refuses}
use Rattle.refusal.specs.declared.Refusal.TheVariants.{OverLimit, ShortBuffer, MalformedText}
use Rattle.lent.specs.Count.{one}
use Rattle.lent.specs.Grid.{grid, tab}
use Rattle.lent.specs.Lent.{most_assets, most_cells, laid}
use Rattle.fields.specs.Split.{newline, tabulator, split, piece, end_of, all}
use Rattle.decimals.specs.Decimal.{is_cell, cell_of}
use Rattle.names.specs.Names.{is_name}
use Rattle.ceilings.specs.Written.{is_ceiling, ceiling_of}
use Rattle.heading.specs.Heading.{field, fields_in, last_field, is_hrp, is_hcaa, is_priced, is_ceiled, unknown_lines, head_of}
use Rattle.reading.specs.declared.Block.{Block}
use Rattle.heading.specs.Outcomes.{Heading}
use Rattle.reading.specs.Outcomes.{Reading}
use Rattle.heading.specs.declared.Task.TheVariants as task
use Rattle.reading.specs.declared.Job.TheVariants as jobs

-- ---- lines

-- "lines ended by a newline": the pieces that a newline ends. What stands after the last newline is no line
abbrev pub lines : List ℕ → List (List ℕ)
lines text = take (length (split newline text) - 1) (split newline text)

-- what stands after the last newline
abbrev pub rest : List ℕ → List ℕ
rest text = piece newline text (length (split newline text) - 1)

-- line i, counted from 0
abbrev pub line : List ℕ → ℕ → List ℕ
line text i = piece newline text i

-- ---- the two blocks: "Then per asset" a line; or "a new prices block in place of the covariance: .. a line of names, then one line of cells for each day"

unfoldable pub priced : List ℕ → Bool
unfolding split is_priced
priced text = is_priced (line text 0)

-- request 10: "A job file with ceilings"
unfoldable pub ceiled : List ℕ → Bool
unfolding split is_ceiled
ceiled text = is_ceiled (line text 0)

-- the lines before those with cells: the first; and "a line of names", which "a line of ceilings follows"
unfoldable pub head_in : List ℕ → ℕ
unfolding priced ceiled
head_in text = cond (priced text) (2 + one (ceiled text)) 1

-- the lines with cells
unfoldable pub rows_in : List ℕ → ℕ
unfolding split head_in
rows_in text = length (lines text) - head_in text

-- the assets: as many as there are names, or lines
unfoldable pub assets : List ℕ → ℕ
unfolding split priced rows_in
assets text = cond (priced text) (fields_in (line text 1)) (rows_in text)

-- n cells
unfoldable pub is_row : ℕ → List (List ℕ) → Bool
unfolding all is_cell
is_row n ws = eqb (length ws) n && all is_cell ws

-- the fields of an asset's line that are cells: all after the name, but the ceiling where there is one
unfoldable pub row_fields : Bool → List ℕ → List (List ℕ)
unfolding split
row_fields c l = take (fields_in l - (1 + one c)) (drop 1 (split tabulator l))

-- a line of one of n assets: "a name .. and its covariance row", and "each asset's line then ends with its ceiling"
unfoldable pub is_asset : Bool → ℕ → List ℕ → Bool
unfolding split is_name is_row row_fields is_ceiling
is_asset c n l = is_name (field l 0) && (is_row n (row_fields c l) && (not c || is_ceiling (last_field l)))

-- "one line of cells for each day", of n assets
unfoldable pub is_day : ℕ → List ℕ → Bool
unfolding split is_row
is_day n l = is_row n (split tabulator l)

-- "a line of names"
unfoldable pub is_names : List ℕ → Bool
unfolding split all is_name
is_names l = all is_name (split tabulator l)

-- "a line of ceilings", of n assets
unfoldable pub is_ceilings : ℕ → List ℕ → Bool
unfolding split all is_ceiling
is_ceilings n l = eqb (fields_in l) n && all is_ceiling (split tabulator l)

unfoldable pub is_covariance : List ℕ → Bool
unfolding split all is_asset ceiled assets
is_covariance text = all (is_asset (ceiled text) (assets text)) (drop 1 (lines text))

unfoldable pub is_prices : List ℕ → Bool
unfolding split all head_in is_names is_ceilings is_day ceiled assets
is_prices text =
    leb (head_in text) (length (lines text))
    && (is_names (line text 1)
    && ((not (ceiled text) || is_ceilings (assets text) (line text 2))
    && all (is_day (assets text)) (drop (head_in text) (lines text))))

-- what stands after the first line: a block, and nothing after its last line
unfoldable pub is_block : List ℕ → Bool
unfolding split priced is_covariance is_prices
is_block text = eqb (length (rest text)) 0 && cond (priced text) (is_prices text) (is_covariance text)

-- a job text: a first line, and its block
unfoldable pub is_job : List ℕ → Bool
unfolding split is_hrp is_hcaa is_block
is_job text = leb 1 (length (lines text)) && ((is_hrp (line text 0) || is_hcaa (line text 0)) && is_block text)

-- cell (i, j): field j of day i's line, or field j + 1 of asset i's
unfoldable pub text_cell : List ℕ → ℕ → ℕ → Float
unfolding split priced head_in cell_of
text_cell text i j = cond (priced text) (cell_of (field (line text (i + head_in text)) j)) (cell_of (field (line text (i + 1)) (j + 1)))

unfoldable pub cells_in : List ℕ → List Float
unfolding rows_in assets text_cell
cells_in text = grid (rows_in text) (assets text) (text_cell text)

-- asset i's name: field i of the line of names, or the first of its own line
unfoldable pub name_of : List ℕ → ℕ → List ℕ
unfolding split priced
name_of text i = cond (priced text) (field (line text 1) i) (field (line text (i + 1)) 0)

-- where piece k begins
unfoldable pub start_of : ℕ → List ℕ → ℕ → ℕ
unfolding end_of
start_of d s zero = 0
start_of d s (suc k) = end_of d s (start_of d s k) + 1

-- where asset i's name begins
unfoldable pub name_start : List ℕ → ℕ → ℕ
unfolding split priced start_of
name_start text i = cond (priced text) (start_of newline text 1 + start_of tabulator (line text 1) i) (start_of newline text (i + 1))

unfoldable pub starts_in : List ℕ → List ℕ
unfolding assets name_start
starts_in text = tab (assets text) (name_start text)

-- asset i's ceiling: field i of the line of ceilings, or the last of its own line
unfoldable pub text_ceiling : List ℕ → ℕ → ℕ
unfolding split priced ceiling_of
text_ceiling text i = cond (priced text) (ceiling_of (field (line text 2) i)) (ceiling_of (last_field (line text (i + 1))))

-- the ceilings, where they are given
unfoldable pub ceilings_in : List ℕ → List ℕ
unfolding ceiled assets text_ceiling
ceilings_in text = cond (ceiled text) (tab (assets text) (text_ceiling text)) []

-- ---- refusals: "Order: 9, 15, 8, 7", with the lent buffers' 11 after the 9; "then as before, the allocator's 9 for over 64 assets or 4,096 cells"

-- rows of n cells are more than an allocator takes
unfoldable pub is_over : ℕ → ℕ → Bool
is_over rows n = ltb most_assets n || ltb most_cells (rows * n)

unfoldable pub text_lines : List ℕ → List Line
unfolding is_job split unknown_lines rows_in assets is_over
text_lines text =
    (not (is_job text), MalformedText)
    ∷ (unknown_lines (line text 0)
    ++ ((is_over (rows_in text) (assets text), OverLimit) ∷ []))

-- "Text of at most 65,536 bytes (else 9)"
abbrev pub most_bytes : ℕ
most_bytes = 65536

-- the entries that a reader is lent: doubles for the cells, numbers for the starts and for the ceilings
pub record ReadRoom : Type 0 where
  pub cells : ℕ
  pub starts : ℕ
  pub ceilings : ℕ

-- the text alone says how many assets it has, so the lent buffers take those of every text: 4,096 cells, 64 starts and 64 ceilings, whatever the text
unfoldable pub read_table : List ℕ → ReadRoom → List Line
unfolding text_lines
read_table text room =
    (ltb most_bytes (length text), OverLimit)
    ∷ (ltb room.cells most_cells, ShortBuffer)
    ∷ (ltb room.starts most_assets, ShortBuffer)
    ∷ (ltb room.ceilings most_assets, ShortBuffer)
    ∷ text_lines text

unfoldable pub read_outcome : List ℕ → ReadRoom → Outcome
unfolding read_table
read_outcome text room = first (read_table text room)

-- ---- the answer

-- what a first line asks for, of a block
abbrev pub job_of : Block → Heading → Reading
job_of b (Err r) = Err r
job_of b (Ok (task.Hrp d)) = Ok (jobs.Hrp b d)
job_of b (Ok (task.Hcaa l d)) = Ok (jobs.Hcaa b l d)

-- rows of n cells that are prices or not, with ceilings or without
unfoldable pub block_in : List ℕ → Block
unfolding assets rows_in priced ceiled
block_in text = record { assets = assets text; rows = rows_in text; priced = priced text; ceiled = ceiled text }

unfoldable pub job_in : List ℕ → Reading
unfolding split head_of block_in
job_in text = job_of (block_in text) (head_of (line text 0))

abbrev pub read_as : Outcome → Reading → Reading
read_as (Ok _) r = r
read_as (Err k) r = Err k

unfoldable pub read_of : List ℕ → ReadRoom → Reading
unfolding read_outcome job_in
read_of text room = read_as (read_outcome text room) (job_in text)

-- what the answer tells: 0 and the job, or the refusal's number
abbrev pub reading_tells : Reading → Telling Reading
reading_tells (Err r) = refuses r
reading_tells (Ok (jobs.Hrp b d)) = accepts (Ok (jobs.Hrp b d))
reading_tells (Ok (jobs.Hcaa b l d)) = accepts (Ok (jobs.Hcaa b l d))

-- what the lent doubles hold: the cells, then zeros; and the lent numbers: where the assets' names begin, and their ceilings, then zeros
unfoldable pub cells_laid : List ℕ → ReadRoom → List Float
unfolding read_outcome cells_in
cells_laid text room = laid pz (read_outcome text room) room.cells (cells_in text)

unfoldable pub starts_laid : List ℕ → ReadRoom → List ℕ
unfolding read_outcome starts_in
starts_laid text room = laid 0 (read_outcome text room) room.starts (starts_in text)

unfoldable pub ceilings_laid : List ℕ → ReadRoom → List ℕ
unfolding read_outcome ceilings_in
ceilings_laid text room = laid 0 (read_outcome text room) room.ceilings (ceilings_in text)

-- the call: its answer, and what it leaves in each lent buffer
pub record JobRead (text : List ℕ) (room : ReadRoom) (r : Reading) (cells : List Float) (starts ceilings : List ℕ) : Type 0 where
  pub answer : r ≡ read_of text room
  pub cells_are : cells ≡ cells_laid text room
  pub starts_are : starts ≡ starts_laid text room
  pub ceilings_are : ceilings ≡ ceilings_laid text room
