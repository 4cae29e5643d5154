-- Counting: how often a number stands in a list, and sums of numbers. Definitions only.
use Rattle.std.specs.Prelude.{ℕ, zero, suc, ◌+◌, Bool, true, false, List, [], ◌∷◌, eqb}

-- 1 where the test passed, and 0 where not
abbrev pub one : Bool → ℕ
one true = 1
one false = 0

-- how often x stands in the list
unfoldable pub count : ℕ → List ℕ → ℕ
count x [] = 0
count x (y ∷ ys) = one (eqb y x) + count x ys

-- f 0 + f 1 + .. + f (n - 1)
unfoldable pub upto : (ℕ → ℕ) → ℕ → ℕ
upto f zero = 0
upto f (suc n) = upto f n + f n

-- f x for each x of the list, added up
unfoldable pub over_all : (ℕ → ℕ) → List ℕ → ℕ
over_all f [] = 0
over_all f (x ∷ xs) = f x + over_all f xs
