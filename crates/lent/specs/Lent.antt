-- Document 01, "Sizes" and refusals 9, 10 and 11: matrices and lent buffers. Definitions only.
use Rattle.std.specs.Prelude.{ℕ, ◌-◌, ◌*◌, Bool, false, not, cond, ◌||◌, List, [], ◌∷◌, ◌++◌, ltb, eqb, length, replicate, Some, Ok, None, Err, Option, Result}
use Rattle.refusal.specs.Table.{Line, Outcome}
use Rattle.refusal.specs.Telling.{Telling, accepts, refuses}
use Rattle.refusal.specs.declared.Refusal.{Refusal}
use Rattle.refusal.specs.declared.Refusal.TheVariants.{DimensionMismatch, OverLimit, SliceLength, ShortBuffer}
use Rattle.lent.specs.declared.Size.{Size}

-- "0 to 64 assets; a matrix has at most 64 columns, 4,096 rows and 4,096 cells"
abbrev pub most_assets : ℕ
most_assets = 64

abbrev pub most_columns : ℕ
most_columns = 64

abbrev pub most_rows : ℕ
most_rows = 4096

abbrev pub most_cells : ℕ
most_cells = 4096

-- "scratch has under 8,192 doubles" is refusal 11
abbrev pub least_scratch : ℕ
least_scratch = 8192

-- 9: rows, columns or cells are over their limit
unfoldable pub over_limit : ℕ → ℕ → Bool
over_limit rows w = ltb most_rows rows || (ltb most_columns w || ltb most_cells (rows * w))

-- 10: "a matrix's slice isn't rows times columns long"
unfoldable pub other_length : ℕ → ℕ → ℕ → Bool
other_length len rows w = not (eqb len (rows * w))

-- a flag is set where it is not 0
abbrev pub is_set : ℕ → Bool
is_set flag = not (eqb flag 0)

-- rows and columns
abbrev pub size : ℕ → ℕ → Size
size rows w = record { rows = rows; columns = w }

-- a matrix that a call may be given or not
abbrev pub Shape : Type 0
Shape = Option Size

-- what a call that answers a matrix returns; its cells are in the lent buffer
abbrev pub Answer : Type 0
Answer = Result Size Refusal

-- "An absent matrix differs from one with 0 rows": whether it is given is said beside its sizes
unfoldable pub shape_of : Bool → ℕ → ℕ → Shape
shape_of given rows w = cond given (Some (size rows w)) None

-- the slice of an absent one is not looked at
unfoldable pub too_big : Shape → Bool
unfolding over_limit
too_big None = false
too_big (Some s) = over_limit s.rows s.columns

unfoldable pub misfits : Shape → ℕ → Bool
unfolding other_length
misfits None len = false
misfits (Some s) len = other_length len s.rows s.columns

-- the first lines of every table over one matrix of `rows` rows and w columns in a slice of len numbers
unfoldable pub sizes : ℕ → ℕ → ℕ → List Line
unfolding over_limit other_length
sizes len rows w = (over_limit rows w, OverLimit) ∷ (other_length len rows w, SliceLength) ∷ []

-- the first lines of every table over one matrix that must be square, whose answer has as many cells as it: "elsewhere the answer's cells" (11), then 3
unfoldable pub squares : ℕ → ℕ → ℕ → ℕ → List Line
unfolding sizes
squares len rows w room = sizes len rows w ++ ((ltb room (w * w), ShortBuffer) ∷ (not (eqb rows w), DimensionMismatch) ∷ [])

-- "leaves every lent answer and scratch entry zero"; "an accepted job leaves zero past its own last entry":
-- a buffer of room entries after an outcome, the cells at its start and the zero z after them, or z throughout
unfoldable pub laid : {A : Type 0} → A → Outcome → ℕ → List A → List A
laid z (Ok _) room cells = cells ++ replicate (room - length cells) z
laid z (Err r) room cells = replicate room z

-- a matrix's answer: its rows and columns, or the refusal
unfoldable pub answer_of : Outcome → ℕ → ℕ → Answer
answer_of (Ok _) rows w = Ok (size rows w)
answer_of (Err r) rows w = Err r

-- this paper's number and values: 0 and the rows and columns, or the refusal's
abbrev pub answer_tells : Answer → Telling (ℕ × ℕ)
answer_tells (Ok s) = accepts (s.rows, s.columns)
answer_tells (Err r) = refuses r

-- how a call that answers a matrix went
unfoldable pub told_of : Answer → Outcome
told_of (Ok s) = Ok tt
told_of (Err r) = Err r
