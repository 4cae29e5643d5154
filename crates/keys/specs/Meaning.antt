-- What byte order is, of names of any length. Definitions only.
use Rattle.std.specs.Prelude.{ℕ, ◌<◌, Bool, true, false, cond, List, [], ◌∷◌, ltb, eqb}

-- the first byte that differs decides, and a name stands before any longer one that begins with it
unfoldable pub bytes_before : List ℕ → List ℕ → Bool
bytes_before [] [] = false
bytes_before [] (y ∷ b) = true
bytes_before (x ∷ a) [] = false
bytes_before (x ∷ a) (y ∷ b) = cond (eqb x y) (bytes_before a b) (ltb x y)

-- bytes of a name: none is 0
abbrev pub NameBytes : List ℕ → Type 0
NameBytes [] = Unit
NameBytes (x ∷ a) = (0 < x) × (x < 256) × NameBytes a
