-- Document 02, request 7: "Hold n(n − 1)/2 distances, row by row above the diagonal". Where a distance stands, and which matrices are held so. Definitions only.
use Rattle.std.specs.Prelude.{ℕ, ◌+◌, ◌-◌, ◌*◌, Bool, true, ◌&&◌, cond, List, eqb, leb, ltb, length, set, Float}
use Rattle.std.specs.Float.{binary64}
use Rattle.std.specs.Float.Ieee.{to_bits}
use Rattle.lent.specs.Grid.{cell}
use Rattle.lent.specs.Range.{range}
use Rattle.triangle.specs.declared.Form.{Form}
use Rattle.triangle.specs.declared.Form.TheVariants.{Square, Triangle}

-- the pairs of the first i of m things with those after them: (m − 1) + (m − 2) + ..
unfoldable pub met : ℕ → ℕ → ℕ
met m i = range (λ j c. c + (m - (j + 1))) 0 i 0

-- ---- places

-- of the cell right of the diagonal in row r: "entry r·w + c" of the square form; in the triangle after the rows above it
unfoldable pub row_of : Form → ℕ → ℕ → ℕ
unfolding met
row_of Square n r = r * n + r + 1
row_of Triangle n r = met n r

-- of cell (r, c), off the diagonal: the triangle has one for it and its mirror
unfoldable pub place_of : Form → ℕ → ℕ → ℕ → ℕ
unfolding met
place_of Square n r c = r * n + c
place_of Triangle n r c = cond (ltb r c) (met n r + (c - r - 1)) (met n c + (r - c - 1))

-- so right of the diagonal cell (r, c) stands at shift_at r + (c − 1), in both forms
unfoldable pub shift_at : Form → ℕ → ℕ → ℕ
unfolding row_of
shift_at form n r = row_of form n r - r

unfoldable pub shifted : Form → ℕ → ℕ → List ℕ → List ℕ
unfolding shift_at
shifted form n r shifts = set shifts r (shift_at form n r)

-- ---- "This holds only where every cell equals its mirror or both are NaN": the same bits, which every NaN has, and +0 and −0 have not

unfoldable pub is_mirror : List Float → ℕ → ℕ → ℕ → Bool
is_mirror xs n r c = eqb (to_bits binary64 (cell xs n r c)) (to_bits binary64 (cell xs n c r))

-- the cells of row r above the diagonal, after those before them
unfoldable pub mirror_row : ℕ → List Float → ℕ → Bool → Bool
unfolding is_mirror
mirror_row n xs r before = range (λ c b. b && is_mirror xs n r c) (r + 1) n before

unfoldable pub mirrored : ℕ → List Float → Bool
unfolding mirror_row
mirrored n xs = range (mirror_row n xs) 0 n true

-- ---- "row by row above the diagonal"

-- an n by n matrix of at most 64, and room for the cells above its diagonal
unfoldable pub has_room : ℕ → List Float → List Float → Bool
unfolding met
has_room n xs d = leb n 64 && eqb (length xs) (n * n) && leb (met n n) (length d)

unfoldable pub upper_row : ℕ → List Float → ℕ → List Float → List Float
unfolding place_of
upper_row n xs r d = range (λ c t. set t (place_of Triangle n r c) (cell xs n r c)) (r + 1) n d

unfoldable pub upper_of : ℕ → List Float → List Float → List Float
unfolding upper_row
upper_of n xs d = range (upper_row n xs) 0 n d
