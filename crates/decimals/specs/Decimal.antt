-- Document 02, request 8: ordinary decimals in cells. Definitions only.
use Rattle.std.specs.Prelude.{ℕ, ◌+◌, ◌-◌, ◌^◌, Bool, not, cond, ◌&&◌, ◌||◌, List, [], ◌∷◌, ◌++◌, leb, eqb, pos, length, drop, get_or, Float, Some, None}
use Rattle.std.specs.Float.{binary64}
use Rattle.std.specs.Float.Ieee.{neg, div, of_int}
use Rattle.refusal.specs.Table.{first, Outcome}
use Rattle.refusal.specs.declared.Refusal.TheVariants.{MalformedText}
use Rattle.fields.specs.Split.{split, piece, all}
use Rattle.fields.specs.Numerals.{in_base, number, is_bits, double_of}
use Rattle.fields.specs.Outcomes.{Cell}

-- "an optional minus"
unfoldable pub signed : List ℕ → Bool
signed w = eqb (get_or w 0 0) 0x2d

-- what stands after it
unfoldable pub bare : List ℕ → List ℕ
unfolding signed
bare w = cond (signed w) (drop 1 w) w

-- the bytes before the point, and those after it
abbrev pub front : List ℕ → List ℕ
front w = piece 0x2e w 0

abbrev pub back : List ℕ → List ℕ
back w = piece 0x2e w 1

abbrev pub points : List ℕ → ℕ
points w = length (split 0x2e w) - 1

-- of p points, with a bytes before the first and b after it: "an optional point with digits after it, up to 15 digits in all, at least one before the point"
unfoldable pub shaped : ℕ → ℕ → ℕ → Bool
shaped p a b = leb p 1 && (leb 1 a && (leb p b && leb (a + b) 15))

-- a decimal without its minus
unfoldable pub is_bare : List ℕ → Bool
unfolding shaped
is_bare w = shaped (points w) (length (front w)) (length (back w)) && (all (in_base 10) (front w) && all (in_base 10) (back w))

-- all its digits as one number; it stands for this over 10^k, k the digits after the point
unfoldable pub digits_of : List ℕ → ℕ
digits_of w = number 10 0 (front w ++ back w)

abbrev pub places_of : List ℕ → ℕ
places_of w = length (back w)

-- "one division by an exact power of ten"
unfoldable pub over_tens : ℕ → ℕ → Float
over_tens n k = div binary64 (of_int binary64 (pos n)) (of_int binary64 (pos (10 ^ k)))

-- with the minus, if there is one: "minus zero gives −0"
unfoldable pub signed_by : Bool → Float → Float
signed_by s x = cond s (neg x) x

-- a cell of this form
unfoldable pub is_decimal : List ℕ → Bool
unfolding bare is_bare
is_decimal w = is_bare (bare w)

-- "The value is the double nearest the exact decimal": that it is, is the law decimal_nearest
unfoldable pub decimal_of : List ℕ → Float
unfolding signed bare digits_of over_tens signed_by
decimal_of w = signed_by (signed w) (over_tens (digits_of (bare w)) (places_of (bare w)))

unfoldable pub decimal_read : List ℕ → Cell
unfolding is_decimal decimal_of
decimal_read w = cond (is_decimal w) (Some (decimal_of w)) None

-- "A cell may also be an optional minus, digits, ..": it has one form or the other
unfoldable pub is_cell : List ℕ → Bool
unfolding is_bits is_decimal
is_cell w = is_bits w || is_decimal w

-- "a cell of 16 lower-case hex digits keeps its old meaning"
unfoldable pub cell_of : List ℕ → Float
unfolding is_bits number decimal_of
cell_of w = cond (is_bits w) (double_of w) (decimal_of w)

unfoldable pub cell_read : List ℕ → Cell
unfolding is_cell cell_of
cell_read w = cond (is_cell w) (Some (cell_of w)) None

-- ---- what the answers tell: "15 for other forms"

unfoldable pub decimal_outcome : List ℕ → Outcome
unfolding is_decimal
decimal_outcome w = first ((not (is_decimal w), MalformedText) ∷ [])

unfoldable pub cell_outcome : List ℕ → Outcome
unfolding is_cell
cell_outcome w = first ((not (is_cell w), MalformedText) ∷ [])
