-- What the private functions promise: may be skipped. Definitions only.
use Rattle.std.specs.Prelude.{ℕ, Bool, true, false, cond, ◌&&◌, ◌||◌, List, [], ltb, eqb, length, get_or, drop, Some, None}
use Rattle.fields.specs.Split.{tabulator, split, all}
use Rattle.fields.specs.Numerals.{is_bits, number}
use Rattle.names.specs.Names.{is_name}
use Rattle.slips.specs.Slips.{is_trim, is_amount}
use Rattle.slips.specs.declared.Slip.{Slip}
use Rattle.slips.specs.declared.Slip.TheVariants.{Other, Held}
use Rattle.fields.specs.Outcomes.{Numeral}

-- a 0 in front of other digits
unfoldable pub is_padded : List ℕ → Bool
is_padded w = ltb 1 (length w) && eqb (get_or w 0 0) 48

unfoldable pub trim_read : List ℕ → Numeral
unfolding is_trim number
trim_read w = cond (is_trim w) (Some (number 10 0 w)) None

unfoldable pub amount_read : List ℕ → Numeral
unfolding is_amount number
amount_read w = cond (is_amount w) (Some (number 10 0 w)) None

-- every field that begins at a place or later is a name; none begins past the end
unfoldable pub names_from : List ℕ → ℕ → Bool
unfolding all is_name split
names_from line at = ltb (length line) at || all is_name (split tabulator (drop at line))

-- three fields, or four, the last a ceiling
unfoldable pub ends_well : List (List ℕ) → Bool
unfolding is_amount
ends_well ws = eqb (length ws) 3 || (eqb (length ws) 4 && is_amount (get_or ws 3 []))

-- the fields of an asset's record but the millionths
unfoldable pub is_framed : List (List ℕ) → Bool
unfolding is_name is_bits ends_well
is_framed ws = is_name (get_or ws 0 []) && (is_bits (get_or ws 1 []) && ends_well ws)

-- what a line holds whose other fields are good or not
unfoldable pub holding : Bool → Numeral → Slip
holding true (Some m) = Held m
holding true None = Other
holding false n = Other
