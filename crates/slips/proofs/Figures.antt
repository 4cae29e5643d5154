-- Lines of listings, computed by antt as one table: each is an answer beside the one that it must be. Assumes nothing.
use Prim.Native.Nat.{ℕ, ◌+◌}
use mathlib.Core.Path.{◌≡◌, refl}
use mathlib.Core.Bool.{Bool, true, ◌&&◌}
use mathlib.Core.List.{List, [], ◌∷◌}
use lib.Dec.{eqb}
use Rattle.refusal.specs.Table.{first}
use Rattle.refusal.specs.Telling.{outcome_tells}
use Rattle.text.specs.Bytes.{bytes, same}
use Rattle.fields.specs.Split.{onto, split, all}
use Rattle.fields.specs.Numerals.{digit, number, is_bits, is_numeral}
use Rattle.names.specs.Names.{is_name}
use Rattle.slips.specs.Slips.{is_trim, is_amount, is_given, is_held, held_in, order_in, refused_in, slip_in, slip_of, is_slip_in, is_slip, slip_outcome}
use Rattle.slips.specs.declared.Slip.{Slip}
use Rattle.slips.specs.declared.Slip.TheVariants.{Other, Held, Order, Refused}

-- the millionths of a holding; 2,000,000 and the names of an order; 3,000,000 for a refusal, 4,000,000 for none of these
abbrev told : Slip → ℕ
told (Held m) = m
told (Order n) = 2000000 + n
told Refused = 3000000
told Other = 4000000

-- a line is answered so, and the table says 0
abbrev reads : List ℕ → ℕ → Bool
reads l k = eqb (told (slip_of l)) k && eqb (outcome_tells (slip_outcome l)).number 0

-- a line is none of these, and the table says 15
abbrev other : List ℕ → Bool
other l = eqb (told (slip_of l)) 4000000 && eqb (outcome_tells (slip_outcome l)).number 15

abbrev lines : List Bool
lines =
    reads (bytes "A\t3fd0000000000000\t250000") 250000
    ∷ reads (bytes "A\t3fd0000000000000\t250000\t1000000") 250000
    ∷ reads (bytes "A\t3fd0000000000000\t0") 0
    ∷ reads (bytes "A\t3ff0000000000000\t1000000\t0") 1000000
    ∷ reads (bytes "ABCDEFGHIJKLMNOP\t3fd0000000000000\t250000") 250000
    -- a ceiling, or millionths, with a 0 in front, or above a million
    ∷ other (bytes "A\t3fd0000000000000\t250000\t01")
    ∷ other (bytes "A\t3fd0000000000000\t250000\t1000001")
    ∷ other (bytes "A\t3fd0000000000000\t250000\t")
    ∷ other (bytes "A\t3fd0000000000000\t0250000")
    ∷ other (bytes "A\t3fd0000000000000\t1000001")
    ∷ other (bytes "A\t3fd0000000000000\t00")
    ∷ other (bytes "A\t3fd0000000000000\t")
    ∷ other (bytes "A\t3fd0000000000000")
    -- bits with a large letter, with 15 digits, with 17
    ∷ other (bytes "A\t3Fd0000000000000\t250000")
    ∷ other (bytes "A\t3fd000000000000\t250000")
    ∷ other (bytes "A\t3fd00000000000000\t250000")
    -- a name of 17 bytes, none, one with a space; five fields
    ∷ other (bytes "ABCDEFGHIJKLMNOPQ\t3fd0000000000000\t250000")
    ∷ other (bytes "\t3fd0000000000000\t250000")
    ∷ other (bytes "A B\t3fd0000000000000\t250000")
    ∷ other (bytes "A\t3fd0000000000000\t250000\t1000000\t1")
    -- orders
    ∷ reads (bytes "order\tC\tA\tB") 2000003
    ∷ reads (bytes "order\tA") 2000001
    ∷ reads (bytes "order") 2000000
    ∷ other (bytes "order\tA\t")
    ∷ other (bytes "order\t")
    ∷ other (bytes "order\t\tA")
    ∷ other (bytes "order\trefused")
    ∷ other (bytes "order\torder")
    ∷ other (bytes "order\t3fd0000000000000\t250000 ")
    -- refusals
    ∷ reads (bytes "refused\t15") 3000000
    ∷ reads (bytes "refused\t1") 3000000
    ∷ reads (bytes "refused\t20") 3000000
    ∷ other (bytes "refused\t0")
    ∷ other (bytes "refused\t21")
    ∷ other (bytes "refused\t015")
    ∷ other (bytes "refused")
    ∷ other (bytes "refused\t")
    ∷ other (bytes "refused\t15\t1")
    ∷ other []
    ∷ []

pub figures : all (λ b. b) lines ≡ true
unfolding first same onto split all digit number is_bits is_numeral is_name is_trim is_amount is_given is_held held_in order_in refused_in slip_in slip_of is_slip_in is_slip slip_outcome
figures = refl
