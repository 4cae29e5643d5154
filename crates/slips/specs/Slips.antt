-- Document 02, request 5: "Input is the concatenated output of `weights`". The lines of a listing, read again. Definitions only.
use Rattle.std.specs.Prelude.{ℕ, ◌-◌, Bool, not, cond, ◌&&◌, ◌||◌, List, [], ◌∷◌, leb, eqb, length, get_or, drop}
use Rattle.refusal.specs.Table.{first, Outcome}
use Rattle.refusal.specs.Telling.{Telling, accepts, refuses}
use Rattle.refusal.specs.declared.Refusal.TheVariants.{MalformedText}
use Rattle.text.specs.Bytes.{bytes, same}
use Rattle.fields.specs.Split.{tabulator, split, all}
use Rattle.fields.specs.Numerals.{is_bits, is_numeral, number}
use Rattle.names.specs.Names.{is_name}
use Rattle.slips.specs.declared.Slip.{Slip}
use Rattle.slips.specs.declared.Slip.TheVariants.{Other, Held, Order, Refused}

-- a number "without leading zeros", of 1 to 9 digits
unfoldable pub is_trim : List ℕ → Bool
unfolding is_numeral
is_trim w = is_numeral w && (eqb (length w) 1 || not (eqb (get_or w 0 0) 48))

-- millionths, or a ceiling: such a number, "0 to 1,000,000"
unfoldable pub is_amount : List ℕ → Bool
unfolding is_trim number
is_amount w = is_trim w && leb (number 10 0 w) 1000000

-- a refusal's number that one of the documents gives: 1 to 20
unfoldable pub is_given : List ℕ → Bool
unfolding is_trim number
is_given w = is_trim w && (leb 1 (number 10 0 w) && leb (number 10 0 w) 20)

-- an asset's record: "name, weight bits, millionths"; "Request 5's reader takes lines with or without the fourth field", the ceiling
unfoldable pub is_held : List (List ℕ) → Bool
unfolding is_name is_bits is_amount
is_held ws =
    is_name (get_or ws 0 [])
    && (is_bits (get_or ws 1 [])
    && (is_amount (get_or ws 2 [])
    && (eqb (length ws) 3 || (eqb (length ws) 4 && is_amount (get_or ws 3 [])))))

unfoldable pub held_in : List (List ℕ) → Slip
unfolding is_held number
held_in ws = cond (is_held ws) (Held (number 10 0 (get_or ws 2 []))) Other

-- "then the leaf order": `order`, and names, which are counted
unfoldable pub order_in : List (List ℕ) → Slip
unfolding all is_name
order_in ws = cond (all is_name (drop 1 ws)) (Order (length ws - 1)) Other

-- "a refusal prints `refused`, tab, number"
unfoldable pub refused_in : List (List ℕ) → Slip
unfolding is_given
refused_in ws = cond (eqb (length ws) 2 && is_given (get_or ws 1 [])) Refused Other

-- a line by its fields
unfoldable pub slip_in : List (List ℕ) → Slip
unfolding same held_in order_in refused_in
slip_in ws =
    cond (same (get_or ws 0 []) (bytes "order")) (order_in ws)
    (cond (same (get_or ws 0 []) (bytes "refused")) (refused_in ws) (held_in ws))

-- the longest line: `order`, and 256 names of 16 bytes, each after its tab
abbrev pub most_line : ℕ
most_line = 4357

-- "fields parted by tabs"; a line that is longer than any can be is none of these
unfoldable pub slip_of : List ℕ → Slip
unfolding split slip_in
slip_of line = cond (leb (length line) most_line) (slip_in (split tabulator line)) Other

-- ---- what an answer tells: a line that is none of these is in a text that "is malformed" (15)

unfoldable pub is_slip_in : List (List ℕ) → Bool
unfolding same all is_name is_given is_held
is_slip_in ws =
    cond (same (get_or ws 0 []) (bytes "order")) (all is_name (drop 1 ws))
    (cond (same (get_or ws 0 []) (bytes "refused")) (eqb (length ws) 2 && is_given (get_or ws 1 [])) (is_held ws))

unfoldable pub is_slip : List ℕ → Bool
unfolding split is_slip_in
is_slip line = leb (length line) most_line && is_slip_in (split tabulator line)

unfoldable pub slip_outcome : List ℕ → Outcome
unfolding is_slip
slip_outcome line = first ((not (is_slip line), MalformedText) ∷ [])

abbrev pub slip_tells : Slip → Telling Slip
slip_tells Other = refuses MalformedText
slip_tells (Held m) = accepts (Held m)
slip_tells (Order n) = accepts (Order n)
slip_tells Refused = accepts Refused
