-- Lists as tables, and sums from first to last. "Cell (r, c) of a matrix of w columns is entry r·w + c."
-- Definitions only. Each grows at its end, as a loop that counts up fills it.
use Rattle.std.specs.Prelude.{ℕ, zero, suc, ◌+◌, ◌*◌, Bool, false, ◌||◌, List, [], ◌∷◌, ◌++◌, length, drop, get_or, replicate, Float}
use Rattle.std.specs.Float.{nan, binary64}
use Rattle.std.specs.Float.Ieee.{add}
use Rattle.arithmetic.specs.Constants.{pz}

-- "cell (r, c) of a matrix of w columns"
abbrev pub cell : List Float → ℕ → ℕ → ℕ → Float
cell xs w r c = get_or xs (r * w + c) nan

-- f 0, f 1, .., f (n - 1)
unfoldable pub tab : {A : Type 0} → ℕ → (ℕ → A) → List A
tab zero f = []
tab (suc n) f = tab n f ++ (f n ∷ [])

-- n rows of w cells each, cell (r, c) being f r c
unfoldable pub grid : {A : Type 0} → ℕ → ℕ → (ℕ → ℕ → A) → List A
unfolding tab
grid zero w f = []
grid (suc n) w f = grid n w f ++ tab w (f n)

-- n times +0, and n times the number 0
abbrev pub zeros : ℕ → List Float
zeros n = replicate n pz

abbrev pub noughts : ℕ → List ℕ
noughts n = replicate n 0

-- l, with p written over its first entries
unfoldable pub over : {A : Type 0} → List A → List A → List A
over p l = p ++ drop (length p) l

-- "sums run first to last from +0": ((+0 + f 0) + f 1) + .. + f (n - 1), each sum rounded
unfoldable pub sum_to : ℕ → (ℕ → Float) → Float
sum_to zero f = pz
sum_to (suc n) f = add binary64 (sum_to n f) (f n)

-- a sum that runs on from one already begun
unfoldable pub sum_on : Float → ℕ → (ℕ → Float) → Float
sum_on begun zero f = begun
sum_on begun (suc n) f = add binary64 (sum_on begun n f) (f n)

-- the double sum over n rows of m terms, the row outer, one sum that runs on from row to row
unfoldable pub sum_rows : ℕ → ℕ → (ℕ → ℕ → Float) → Float
unfolding sum_on
sum_rows zero m f = pz
sum_rows (suc n) m f = sum_on (sum_rows n m f) m (f n)

-- some f k with a k below n
unfoldable pub any_to : ℕ → (ℕ → Bool) → Bool
any_to zero f = false
any_to (suc n) f = any_to n f || f n
