-- Numerals in bases 10 and 16. Definitions only.
use Rattle.std.specs.Prelude.{ℕ, ◌+◌, ◌*◌, ◌-◌, Bool, not, cond, ◌&&◌, List, [], ◌∷◌, leb, ltb, eqb, length, Float, Some, None}
use Rattle.std.specs.Float.{binary64}
use Rattle.std.specs.Float.Ieee.{of_bits}
use Rattle.refusal.specs.Table.{first, Outcome}
use Rattle.refusal.specs.Telling.{Telling, accepts, refuses}
use Rattle.refusal.specs.declared.Refusal.TheVariants.{MalformedText}
use Rattle.fields.specs.Split.{all}
use Rattle.fields.specs.Outcomes.{Cell, Numeral}

-- what a digit is worth: 0 to 9, then a to f; 16 where the byte is no digit
unfoldable pub digit : ℕ → ℕ
digit b = cond (leb 48 b && leb b 57) (b - 48) (cond (leb 97 b && leb b 102) (b - 87) 16)

-- a digit of a base up to 16
abbrev pub in_base : ℕ → ℕ → Bool
in_base base b = ltb (digit b) base

-- the number that digits spell, the first the highest, after digits worth n
unfoldable pub number : ℕ → ℕ → List ℕ → ℕ
unfolding digit
number base n [] = n
number base n (b ∷ w) = number base (n * base + digit b) w

-- "each cell 16 lower-case hex digits" ..
unfoldable pub is_bits : List ℕ → Bool
unfolding digit all
is_bits w = eqb (length w) 16 && all (in_base 16) w

-- .. the bits of a double
abbrev pub double_of : List ℕ → Float
double_of w = of_bits binary64 (number 16 0 w)

unfoldable pub bits_read : List ℕ → Cell
unfolding is_bits number
bits_read w = cond (is_bits w) (Some (double_of w)) None

-- "1 to 9 digits"
unfoldable pub is_numeral : List ℕ → Bool
unfolding digit all
is_numeral w = leb 1 (length w) && (leb (length w) 9 && all (in_base 10) w)

unfoldable pub numeral_read : List ℕ → Numeral
unfolding is_numeral number
numeral_read w = cond (is_numeral w) (Some (number 10 0 w)) None

-- ---- what the answers tell: a field that is not 16 such digits, or no numeral, is in a "job text" that "is malformed" (15)

unfoldable pub bits_outcome : List ℕ → Outcome
unfolding is_bits
bits_outcome w = first ((not (is_bits w), MalformedText) ∷ [])

abbrev pub cell_tells : Cell → Telling Float
cell_tells (Some x) = accepts x
cell_tells None = refuses MalformedText

unfoldable pub numeral_outcome : List ℕ → Outcome
unfolding is_numeral
numeral_outcome w = first ((not (is_numeral w), MalformedText) ∷ [])

abbrev pub numeral_tells : Numeral → Telling ℕ
numeral_tells (Some n) = accepts n
numeral_tells None = refuses MalformedText
