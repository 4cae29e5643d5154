-- The judges' tables, one after the other. Assumes nothing.
use Prim.Native.Nat.{ℕ, ◌*◌}
use mathlib.Core.Path.{◌≡◌, ap, ◌∙◌}
use mathlib.Core.Bool.{Bool}
use mathlib.Core.List.{List, [], ◌∷◌, ◌++◌}
use lib.Dec.{ltb}
use Rattle.refusal.specs.Table.{Line, first, or_else, and_then, Outcome}
use Rattle.refusal.specs.declared.Refusal.TheVariants.{ShortBuffer}
use Rattle.refusal.proofs.Tables.{table, table_end, first_append}
use Rattle.lent.specs.Lent.{sizes, Shape}
use Rattle.inputs.specs.Inputs.{matrix_lines}
use Rattle.rooms.specs.Rooms.{ParityRoom, parity_room_lines, square_lines, parity_judge_table, shapes_judged, hrp_judge_table}
use Rattle.std.specs.Prelude.{Ok}

-- HRP's two lines, of its matrices
matrix_lines_lem : (n : ℕ) (room : ParityRoom) (cells₁ cells₂ : Bool) (o₁ o₂ : Outcome) → cells₁ ≡ ltb room.distances (n * n) → o₁ ≡ or_else cells₁ ShortBuffer (Ok tt)
    → cells₂ ≡ ltb room.correlations (n * n) → o₂ ≡ or_else cells₂ ShortBuffer o₁ → o₂ ≡ first ((ltb room.correlations (n * n), ShortBuffer) ∷ (ltb room.distances (n * n), ShortBuffer) ∷ [])
matrix_lines_lem n room cells₁ cells₂ o₁ o₂ a b c d = simp (table, table_end) (cc)

-- three tables, each judged by itself
staged : (a b c : List Line) → first (a ++ (b ++ c)) ≡ and_then (first a) (and_then (first b) (first c))
staged a b c = first_append a (b ++ c) ∙ ap (and_then (first a)) (first_append b c)

pub covariance_judged : (len rows w : ℕ) (room : ParityRoom)
    → first (parity_judge_table len rows w room) ≡ and_then (first (sizes len rows w)) (and_then (first (parity_room_lines w room)) (first (square_lines rows w)))
unfolding parity_judge_table
covariance_judged len rows w room = staged (sizes len rows w) (parity_room_lines w room) (square_lines rows w)

pub all_judged : (n : ℕ) (p : Shape) (pl : ℕ) (r : Shape) (rl : ℕ) (c : Shape) (cl : ℕ) (room : ParityRoom)
    → first (hrp_judge_table n p pl r rl c cl room) ≡ and_then (first (matrix_lines n p pl r rl c cl)) (and_then (first (parity_room_lines n room)) (first (shapes_judged n p r c)))
unfolding hrp_judge_table
all_judged n p pl r rl c cl room = staged (matrix_lines n p pl r rl c cl) (parity_room_lines n room) (shapes_judged n p r c)
