-- Cells, computed by antt as one table: the bits of what is read, or nothing. Assumes nothing.
use Prim.Native.Nat.{ℕ}
use Prim.Native.String.{String}
use mathlib.Core.Path.{◌≡◌, refl}
use mathlib.Core.Bool.{Bool, true, false, ◌&&◌}
use mathlib.Core.List.{List, [], ◌∷◌}
use lib.Dec.{eqb}
use lib.Count.{count_trailing_zeros}
use lib.Ieee.{binary64, neg, div, of_int, round, units, size, span, climb, odd, of_fields, of_bits, to_bits}
use Rattle.text.specs.Bytes.{bytes}
use Rattle.fields.specs.Split.{onto, split, all}
use Rattle.fields.specs.Numerals.{digit, number, is_bits}
use Rattle.decimals.specs.Decimal.{signed, bare, shaped, is_bare, digits_of, over_tens, signed_by, is_decimal, decimal_of, is_cell, cell_of, cell_read}
use Rattle.std.specs.Prelude.{Some, None}
use Rattle.fields.specs.Outcomes.{Cell}

abbrev every : List Bool → Bool
every [] = true
every (b ∷ bs) = b && every bs

abbrev told : Cell → ℕ → Bool
told None b = false
told (Some x) b = eqb (to_bits binary64 x) b

abbrev refused : Cell → Bool
refused None = true
refused (Some x) = false

abbrev is : String → ℕ → Bool
is s b = told (cell_read (bytes s)) b

abbrev no : String → Bool
no s = refused (cell_read (bytes s))

abbrev table : List Bool
table =
    is "0.1" 0x3fb9_9999_9999_999a
    ∷ is "-1.5" 0xbff8_0000_0000_0000
    ∷ is "123456789.123456" 0x419d_6f34_547e_6b40
    ∷ is "999999999999999" 0x430c_6bf5_2633_fff8
    ∷ is "0.00000000000001" 0x3d06_849b_86a1_2b9b
    ∷ is "-0" 0x8000_0000_0000_0000
    ∷ is "-0.0" 0x8000_0000_0000_0000
    ∷ is "0" 0x0000_0000_0000_0000
    ∷ is "007" 0x401c_0000_0000_0000
    ∷ is "1.10" 0x3ff1_9999_9999_999a
    ∷ is "-999999999999999" 0xc30c_6bf5_2633_fff8
    ∷ is "0.3" 0x3fd3_3333_3333_3333
    ∷ is "0.5" 0x3fe0_0000_0000_0000
    ∷ is "2.675" 0x4005_6666_6666_6666
    ∷ is "90071992547409.9" 0x42d4_7ae1_47ae_147a
    ∷ is "99999999999999.9" 0x42d6_bcc4_1e8f_fffa
    ∷ is "12345678901234.5" 0x42a6_74e7_9c5f_e500
    ∷ is "0.33333333333333" 0x3fd5_5555_5555_5519
    ∷ is "000000000000001" 0x3ff0_0000_0000_0000
    -- 16 lower-case hex digits, which may all be decimal digits
    ∷ is "3ff0000000000000" 0x3ff0_0000_0000_0000
    ∷ is "0000000000000000" 0x0000_0000_0000_0000
    ∷ is "1234567890123456" 0x1234_5678_9012_3456
    ∷ is "8000000000000000" 0x8000_0000_0000_0000
    ∷ is "abcdefabcdefabcd" 0xabcd_efab_cdef_abcd
    -- 16 digits and a point or a minus, zeros in front counted
    ∷ no "0.000000000000001"
    ∷ no "0.333333333333333"
    ∷ no "12345678901234.56"
    ∷ no "-12345678901234.56"
    ∷ no "00000000000000.00"
    ∷ no "0000000000000000."
    ∷ no "-0000000000000000"
    -- other forms
    ∷ no "12345678901234567"
    ∷ no ""
    ∷ no "-"
    ∷ no ".5"
    ∷ no "5."
    ∷ no "-.5"
    ∷ no "-5."
    ∷ no "+1"
    ∷ no "1e3"
    ∷ no "--1"
    ∷ no "1-"
    ∷ no "1.2.3"
    ∷ no "1..2"
    ∷ no "."
    ∷ no "-."
    ∷ no " 1"
    ∷ no "1 "
    ∷ no "1,5"
    ∷ no "0x10"
    ∷ no "nan"
    ∷ no "inf"
    ∷ no "3FF0000000000000"
    ∷ no "3ff000000000000"
    ∷ no "a"
    ∷ no "1.a"
    -- a carriage return
    ∷ refused (cell_read (0x31 ∷ 0x0d ∷ []))
    ∷ []

pub figures : every table ≡ true
unfolding cell_read cell_of is_cell decimal_of is_decimal signed_by over_tens digits_of is_bare shaped bare signed is_bits number digit split onto all neg div of_int round units size span climb odd count_trailing_zeros of_fields of_bits to_bits
figures = refl
