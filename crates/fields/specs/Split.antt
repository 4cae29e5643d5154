-- A list of bytes cut at a byte: "lines ended by a newline, fields parted by tabs". Definitions only.
use Rattle.std.specs.Prelude.{ℕ, ◌+◌, ◌-◌, Bool, true, cond, ◌&&◌, List, [], ◌∷◌, eqb, length, drop, get_or}

abbrev pub newline : ℕ
newline = 10

abbrev pub tabulator : ℕ
tabulator = 9

-- b put in front of the first piece
unfoldable pub onto : ℕ → List (List ℕ) → List (List ℕ)
onto b [] = []
onto b (w ∷ ws) = (b ∷ w) ∷ ws

-- the pieces between the d's: one more than there are d's
unfoldable pub split : ℕ → List ℕ → List (List ℕ)
unfolding onto
split d [] = [] ∷ []
split d (b ∷ s) = cond (eqb b d) ([] ∷ split d s) (onto b (split d s))

-- piece k, counted from 0; nothing where there are not as many
abbrev pub piece : ℕ → List ℕ → ℕ → List ℕ
piece d s k = get_or (split d s) k []

-- the last piece
abbrev pub last_piece : ℕ → List ℕ → List ℕ
last_piece d s = piece d s (length (split d s) - 1)

-- the first piece
unfoldable pub first_piece : ℕ → List ℕ → List ℕ
first_piece d [] = []
first_piece d (b ∷ s) = cond (eqb b d) [] (b ∷ first_piece d s)

-- the place of the first d from a place on, or the end
unfoldable pub end_of : ℕ → List ℕ → ℕ → ℕ
unfolding first_piece
end_of d s from = from + length (first_piece d (drop from s))

-- every entry passes the test
unfoldable pub all : {A : Type 0} → (A → Bool) → List A → Bool
all f [] = true
all f (a ∷ l) = f a && all f l
