-- What the private functions ask of one another and promise: may be skipped. Definitions only.
use Rattle.std.specs.Prelude.{ℕ, ◌+◌, ◌*◌, ◌<◌, ◌≤◌, ◌≡◌, Bool, true, false, cond, not, ◌&&◌, ◌||◌, List, [], ◌∷◌, leb, ltb, eqb, length, take, drop, get_or, Float, Some, Ok, None, Err}
use Rattle.refusal.specs.Table.{Line, first}
use Rattle.refusal.specs.declared.Refusal.TheVariants.{OverLimit, ShortBuffer}
use Rattle.lent.specs.Count.{one}
use Rattle.lent.specs.Grid.{tab, grid, over}
use Rattle.lent.specs.Lent.{most_assets, most_cells}
use Rattle.fields.specs.Split.{split, piece, all}
use Rattle.decimals.specs.Decimal.{cell_of}
use Rattle.names.specs.Names.{is_name}
use Rattle.ceilings.specs.Written.{is_ceiling, ceiling_of}
use Rattle.heading.specs.Heading.{field, last_field}
use Rattle.reading.specs.Reading.{lines, line, rest, priced, ceiled, head_in, rows_in, assets, is_row, is_day, is_names, is_ceilings, cells_in, start_of, starts_in, text_ceiling, ceilings_in, is_over, text_lines, most_bytes, ReadRoom, job_in, read_as}
use Rattle.reading.specs.Outcomes.{Found, Reading, extent}
use Rattle.reading.specs.declared.Job.TheVariants as jobs

-- the first lines of the table: those that the sizes decide
unfoldable pub text_size_lines : ℕ → ReadRoom → List Line
text_size_lines bytes room =
    (ltb most_bytes bytes, OverLimit)
    ∷ (ltb room.cells most_cells, ShortBuffer)
    ∷ (ltb room.starts most_assets, ShortBuffer)
    ∷ (ltb room.ceilings most_assets, ShortBuffer)
    ∷ []

-- a job over the limits is refused, where nothing else refuses it
abbrev pub limited : Bool → Reading → Reading
limited over (Err r) = Err r
limited over (Ok (jobs.Hrp b d)) = cond over (Err OverLimit) (Ok (jobs.Hrp b d))
limited over (Ok (jobs.Hcaa b l d)) = cond over (Err OverLimit) (Ok (jobs.Hcaa b l d))

-- field k of a row's as a double
unfoldable pub cell_at : List (List ℕ) → ℕ → Float
unfolding cell_of
cell_at w k = cell_of (get_or w k [])

-- the cells of a line of n are in the row, as far as it reaches
pub record RowRead (n : ℕ) (line : List ℕ) (r : Bool) (row : List Float) : Type 0 where
  pub told : r ≡ is_row n (split 9 line)
  pub cells : r ≡ true → row ≡ tab (length row) (cell_at (split 9 line))

-- a name, and n cells after it
unfoldable pub is_named : ℕ → List ℕ → Bool
unfolding split is_name is_row
is_named n l = is_name (field l 0) && is_row n (drop 1 (split 9 l))

-- a line with n cells, of an asset, which has a name, or of a day
unfoldable pub is_line : Bool → ℕ → List ℕ → Bool
unfolding is_named is_day
is_line named n l = cond named (is_named n l) (is_day n l)

-- the fields of such a line that are cells
unfoldable pub cell_fields : Bool → List ℕ → List (List ℕ)
unfolding split
cell_fields named l = drop (cond named 1 0) (split 9 l)

pub record LineRead (named : Bool) (n : ℕ) (line : List ℕ) (r : Bool) (row : List Float) : Type 0 where
  pub told : r ≡ is_line named n line
  pub cells : r ≡ true → row ≡ tab (length row) (cell_at (cell_fields named line))

-- with one line before those with cells, each has a name
abbrev pub are_named : ℕ → Bool
are_named before = eqb before 1

-- cell (i, j) of the lines with cells, which follow `before` others
unfoldable pub line_cell : List ℕ → ℕ → ℕ → ℕ → Float
unfolding cell_fields cell_at
line_cell text before i j = cell_at (cell_fields (are_named before) (line text (i + before))) j

-- a text with so many lines with cells after `before` others, the first of which begins at `from`, with room for w cells of each
pub record LinesAsked (text : List ℕ) (from before rows n w cells starts : ℕ) : Type 0 where
  pub short : length text ≤ 65536
  pub pieces : length (split 10 text) ≡ before + rows + 1
  pub begun : from ≡ start_of 10 text before
  pub narrow : w ≤ n
  pub roomy : rows * w ≤ cells
  pub few : starts ≤ rows

pub record LinesRead (text : List ℕ) (before rows n w : ℕ) (r : Bool) (cells : List Float) (starts : List ℕ) (cells' : List Float) (starts' : List ℕ) : Type 0 where
  pub told : r ≡ (eqb (length (rest text)) 0 && all (is_line (are_named before) n) (drop before (lines text)))
  pub filled : r ≡ true → cells' ≡ over (grid rows w (line_cell text before)) cells
  pub placed : r ≡ true → starts' ≡ tab (length starts) (λ i. start_of 10 text (i + before))

-- names on a line that begins at `at`
pub record NamesRead (line : List ℕ) (at : ℕ) (r : Bool) (starts : List ℕ) : Type 0 where
  pub told : r ≡ is_names line
  pub placed : r ≡ true → starts ≡ tab (length starts) (λ i. at + start_of 9 line i)

-- ---- the names and the cells of a block

-- its ceilings are not looked at: the one that ends an asset's line has a cell's form, and is one of the cells there
unfoldable pub has_rows : List ℕ → Bool
unfolding split all priced ceiled head_in assets is_names is_day is_named
has_rows text =
    eqb (length (rest text)) 0
    && cond (priced text)
    (leb (head_in text) (length (lines text)) && (is_names (line text 1) && all (is_day (assets text)) (drop (head_in text) (lines text))))
    (all (is_named (assets text + one (ceiled text))) (drop 1 (lines text)))

unfoldable pub found_in : List ℕ → Found
unfolding has_rows assets rows_in
found_in text = cond (has_rows text) (Some (extent (assets text) (rows_in text))) None

-- a text of which so many lines end, the second of which begins at `from`; `more` is 1 where it has ceilings
pub record BlockAsked (text : List ℕ) (from ends : ℕ) (daily : Bool) (more cells starts : ℕ) : Type 0 where
  pub short : length text ≤ 65536
  pub kind : priced text ≡ daily
  pub limits : more ≡ one (ceiled text)
  pub some : 1 ≤ ends
  pub cut : length (split 10 text) ≡ ends + 1
  pub begun : from ≡ start_of 10 text 1
  pub roomy : 4096 ≤ cells
  pub placed : 64 ≤ starts

-- the line after the names, which begins at `at`
pub record DaysAsked (text : List ℕ) (at more : ℕ) : Type 0 where
  pub short : length text ≤ 65536
  pub there : 2 < length (split 10 text)
  pub begun : at ≡ start_of 10 text 2
  pub few : more ≤ 1

pub record Filled (text : List ℕ) (cells : List Float) (starts : List ℕ) (cells' : List Float) (starts' : List ℕ) : Type 0 where
  pub filled : cells' ≡ over (cells_in text) cells
  pub placed : starts' ≡ over (starts_in text) starts

-- they were read, and are in the buffers where they are not over the limits
pub record BlockRead (text : List ℕ) (r : Found) (cells : List Float) (starts : List ℕ) (cells' : List Float) (starts' : List ℕ) : Type 0 where
  pub told : r ≡ found_in text
  pub held : has_rows text ≡ true → is_over (rows_in text) (assets text) ≡ false → Filled text cells starts cells' starts'

-- ---- its ceilings

-- each of n pieces ends with one
pub record LastRead (d : ℕ) (s : List ℕ) (n : ℕ) (r : Bool) (ceilings : List ℕ) : Type 0 where
  pub told : r ≡ all (λ w. is_ceiling (last_field w)) (take n (split d s))
  pub placed : r ≡ true → ceilings ≡ tab (length ceilings) (λ i. ceiling_of (last_field (piece d s i)))

-- they stand on the line after the names, or each at the end of an asset's line
unfoldable pub has_ceilings : List ℕ → Bool
unfolding split all priced assets is_ceilings is_ceiling
has_ceilings text = cond (priced text) (is_ceilings (assets text) (line text 2)) (all (λ l. is_ceiling (last_field l)) (drop 1 (lines text)))

-- a text with n assets whose names and cells were read
pub record CeilingsAsked (text : List ℕ) (from : ℕ) (daily limited : Bool) (n room : ℕ) : Type 0 where
  pub short : length text ≤ 65536
  pub kind : priced text ≡ daily
  pub limits : ceiled text ≡ limited
  pub begun : from ≡ start_of 10 text 1
  pub headed : head_in text ≤ length (lines text)
  pub counted : n ≡ assets text
  pub few : room ≤ n

pub record CeilingsRead (text : List ℕ) (r : Bool) (ceilings ceilings' : List ℕ) : Type 0 where
  pub told : r ≡ (not (ceiled text) || has_ceilings text)
  pub placed : r ≡ true → ceilings' ≡ cond (ceiled text) (tab (length ceilings) (text_ceiling text)) ceilings

-- ---- the whole text

pub record TextRead (text : List ℕ) (r : Reading) (cells : List Float) (starts ceilings : List ℕ) (cells' : List Float) (starts' ceilings' : List ℕ) : Type 0 where
  pub told : r ≡ read_as (first (text_lines text)) (job_in text)
  pub held : first (text_lines text) ≡ Ok tt → Filled text cells starts cells' starts' × (ceilings' ≡ over (ceilings_in text) ceilings)
