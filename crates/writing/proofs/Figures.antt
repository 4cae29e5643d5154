-- Numbers as text, and bytes that fit or do not, computed by antt as one table. Assumes nothing.
use mathlib.Core.Path.{◌≡◌, refl}
use mathlib.Core.Bool.{Bool, true, ◌&&◌}
use lib.Dec.{eqb}
use Rattle.text.specs.Bytes.{bytes, same}
use Rattle.writing.specs.Writing.{digit_byte, digits, places, decimal, hex_of, written, put, past}

abbrev table : Bool
table =
    -- 0, a million, the greatest
    same (decimal 0) (bytes "0")
    && (same (decimal 1000000) (bytes "1000000")
    && (same (decimal 18446744073709551615) (bytes "18446744073709551615")
    -- the bits of a third, every digit
    && (same (hex_of 0x3fd5_5555_5555_5555) (bytes "3fd5555555555555")
    && (same (hex_of 0x0123_4567_89ab_cdef) (bytes "0123456789abcdef")
    -- up to the end, and past it
    && (same (put (bytes "abc") 1 (bytes "xy")) (bytes "axy")
    && (eqb (past (bytes "abc") 1 (bytes "xy")) 3
    && (same (put (bytes "abc") 2 (bytes "xy")) (bytes "abc")
    && eqb (past (bytes "abc") 2 (bytes "xy")) 2)))))))

pub figures : table ≡ true
unfolding same decimal hex_of places digits digit_byte written put past
figures = refl
