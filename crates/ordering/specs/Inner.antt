-- What the private functions ask of one another and promise: may be skipped. Definitions only.
use Rattle.std.specs.Prelude.{Bool, true, false, cond, T, List, [], ◌∷◌, pos, Float}
use Rattle.std.specs.Float.{fin}
use Rattle.std.specs.Float.Ieee.{lt, le}
use Rattle.arithmetic.specs.Constants.{pz, unit}
use Rattle.ordering.specs.Order.{before}

-- ---- how two ordered lists become one

-- a list's first entry, if it has one, stands before x
unfoldable pub leads : List Float → Float → Bool
leads [] x = false
leads (y ∷ b) x = before y x

-- x goes after the entries of b that stand before it; the rest of b goes on to `rest`
unfoldable pub through : Float → (List Float → List Float) → List Float → List Float
through x rest [] = x ∷ rest []
through x rest (y ∷ b) = cond (before y x) (y ∷ through x rest b) (x ∷ rest (y ∷ b))

-- at each place the next entry of the two lists; of equals that of the first list
unfoldable pub interleaved : List Float → List Float → List Float
interleaved [] b = b
interleaved (x ∷ a) b = through x (interleaved a) b

-- ---- the place at a part of a list

-- from 0 to 1
pub record Part (q : Float) : Type 0 where
  pub low : T (le pz q)
  pub high : T (le q unit)

-- above -1 and below 2^52
pub record Short (x : Float) : Type 0 where
  pub above : T (lt (fin true 1 (pos 0)) x)
  pub below : T (lt x (fin false 1 (pos 52)))
