-- Document 02, request 11: "Keep the live slots packed in slot order". Definitions only.
use Rattle.std.specs.Prelude.{ℕ, cond, List, [], ◌∷◌, eqb}

-- "the other dies": the list without the slot y
unfoldable pub without : ℕ → List ℕ → List ℕ
without y [] = []
without y (x ∷ xs) = cond (eqb x y) (without y xs) (x ∷ without y xs)
