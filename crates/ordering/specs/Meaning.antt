-- What it is for a list to be in order, and for two lists to have the same entries. Definitions only.
use Rattle.std.specs.Prelude.{◌≡◌, ℕ, ◌+◌, false, cond, T, List, [], ◌∷◌, ◌==◌, to_bits, Float}
use Rattle.std.specs.Float.{binary64}
use Rattle.std.specs.Float.Ieee.{fits}
use Rattle.ordering.specs.Order.{before}

-- P holds of each entry
abbrev pub Each : (Float → Type 0) → List Float → Type 0
Each P [] = Unit
Each P (x ∷ l) = P x × Each P l

-- a value that a double has. Each entry of a slice of doubles is one.
abbrev pub Double : Float → Type 0
Double x = T (fits binary64 x)

-- no entry stands before one to its left
abbrev pub Ordered : List Float → Type 0
Ordered [] = Unit
Ordered (x ∷ l) = Each (λ y. before y x ≡ false) l × Ordered l

-- how many entries have the bits b
unfoldable pub count_bits : ℕ → List Float → ℕ
count_bits b [] = 0
count_bits b (x ∷ l) = cond (to_bits binary64 x == b) 1 0 + count_bits b l

-- the same entries, each as often
abbrev pub Same : List Float → List Float → Type 0
Same a l = (b : ℕ) → count_bits b a ≡ count_bits b l
