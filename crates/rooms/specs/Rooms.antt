-- The rooms of the buffers that both allocators are lent, their zeros, and what HRP has beside them; then what a call of HRP must have. Definitions only.
use Rattle.std.specs.Prelude.{ℕ, ◌-◌, ◌*◌, ◌≡◌, not, ◌&&◌, List, [], ◌∷◌, ◌++◌, ltb, eqb, Float}
use Rattle.refusal.specs.Table.{Line}
use Rattle.refusal.specs.declared.Refusal.TheVariants.{NoData, DimensionMismatch, ShortBuffer}
use Rattle.lent.specs.Grid.{zeros, noughts}
use Rattle.lent.specs.Lent.{least_scratch, sizes, Shape}
use Rattle.inputs.specs.Inputs.{absent, other_columns, other_size, matrix_lines}

-- how many entries each buffer has that both allocators are lent
pub record Room : Type 0 where
  pub rows : ℕ
  pub order : ℕ
  pub weights : ℕ
  pub scratch : ℕ

-- 11: "Answer buffers need 2(n − 1) numbers for rows, n for order, n for weights"; "scratch has under 8,192 doubles"
unfoldable pub room_lines : ℕ → Room → List Line
room_lines n room =
    (ltb room.rows (2 * (n - 1)), ShortBuffer)
    ∷ (ltb room.order n, ShortBuffer)
    ∷ (ltb room.weights n, ShortBuffer)
    ∷ (ltb room.scratch least_scratch, ShortBuffer)
    ∷ []

-- "leaves every lent answer and scratch entry zero"
pub record Cleared (room : Room) (rows order : List ℕ) (weights scratch : List Float) : Type 0 where
  pub rows_are : rows ≡ noughts room.rows
  pub order_is : order ≡ noughts room.order
  pub weights_are : weights ≡ zeros room.weights
  pub scratch_is : scratch ≡ zeros room.scratch

-- HRP is lent two more, for its seriated matrices
pub record ParityRoom : Type 0 where
  pub rows : ℕ
  pub order : ℕ
  pub weights : ℕ
  pub correlations : ℕ
  pub distances : ℕ
  pub scratch : ℕ

abbrev pub shared_room : ParityRoom → Room
shared_room room = record { rows = room.rows; order = room.order; weights = room.weights; scratch = room.scratch }

-- 11: those, and "n² for each seriated matrix"
unfoldable pub parity_room_lines : ℕ → ParityRoom → List Line
unfolding room_lines
parity_room_lines n room =
    room_lines n (shared_room room)
    ++ ((ltb room.correlations (n * n), ShortBuffer) ∷ (ltb room.distances (n * n), ShortBuffer) ∷ [])

pub record ParityCleared (room : ParityRoom) (rows order : List ℕ) (weights correlations distances scratch : List Float) : Type 0 where
  pub shared : Cleared (shared_room room) rows order weights scratch
  pub correlations_are : correlations ≡ zeros room.correlations
  pub distances_are : distances ≡ zeros room.distances

-- "no assets 1; .. covariance size 3", of a covariance given by itself
unfoldable pub square_lines : ℕ → ℕ → List Line
square_lines rows w = (eqb w 0, NoData) ∷ (not (eqb rows w), DimensionMismatch) ∷ []

-- on a covariance, the lines of HRP before those of the risk: 9, 10; 11; 1, 3
unfoldable pub parity_judge_table : ℕ → ℕ → ℕ → ParityRoom → List Line
unfolding parity_room_lines square_lines
parity_judge_table len rows w room = sizes len rows w ++ (parity_room_lines w room ++ square_lines rows w)

-- "no matrix 1; no assets 1; given returns' columns 3; else, only without covariance, prices' columns 3"; the shapes are those of prices, returns and covariance of n assets
abbrev pub shape_lines : ℕ → Shape → Shape → Shape → List Line
shape_lines n p r c =
    (absent p && (absent r && absent c), NoData)
    ∷ (eqb n 0, NoData)
    ∷ (other_columns r n, DimensionMismatch)
    ∷ ((absent r && absent c) && other_columns p n, DimensionMismatch)
    ∷ []

-- a given covariance's size is looked at with them, since the lines between are of an absent one
unfoldable pub shapes_judged : ℕ → Shape → Shape → Shape → List Line
shapes_judged n p r c = shape_lines n p r c ++ ((other_size c n, DimensionMismatch) ∷ [])

-- on all that may be given, each with its slice's length: 9, 10; 11; the shapes
unfoldable pub hrp_judge_table : ℕ → Shape → ℕ → Shape → ℕ → Shape → ℕ → ParityRoom → List Line
unfolding shapes_judged parity_room_lines
hrp_judge_table n p pl r rl c cl room = matrix_lines n p pl r rl c cl ++ (parity_room_lines n room ++ shapes_judged n p r c)
