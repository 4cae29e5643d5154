-- Document 01, "Tree and leaf order": when merge rows are a tree. Rows are a flat list: row k is the entries 2k and 2k + 1. Definitions only.
use Rattle.std.specs.Prelude.{ℕ, zero, suc, ◌+◌, ◌-◌, ◌*◌, ◌/◌, Bool, true, ◌&&◌, List, [], ◌∷◌, ltb, eqb, length}
use Rattle.lent.specs.Count.{count}

-- "row k names only ids below n + k": the first entry of the list stands at place i
unfoldable pub below : ℕ → ℕ → List ℕ → Bool
below n i [] = true
below n i (x ∷ xs) = ltb x (n + i / 2) && below n (suc i) xs

-- each number below m stands in the list once
unfoldable pub once : List ℕ → ℕ → Bool
once l zero = true
once l (suc m) = eqb (count m l) 1 && once l m

-- "Merge rows are a tree when there are n − 1, row k names only ids below n + k, and each id 0 to 2n − 3 occurs once."
unfoldable pub is_tree : List ℕ → ℕ → Bool
unfolding below once
is_tree rows n = eqb (length rows) (2 * (n - 1)) && (below n 0 rows && once rows (2 * (n - 1)))

-- a leaf order is "each asset once"
unfoldable pub is_order : List ℕ → ℕ → Bool
unfolding once
is_order order n = eqb (length order) n && once order n
