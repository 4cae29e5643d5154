-- Names back from their keys, and keys in order, computed by antt as one table. Assumes nothing.
use mathlib.Core.Path.{◌≡◌, refl}
use mathlib.Core.Bool.{Bool, true, not, ◌&&◌}
use Rattle.text.specs.Bytes.{bytes, same}
use Rattle.lent.specs.Grid.{tab}
use Rattle.fields.specs.Split.{first_piece}
use Rattle.keys.specs.Keys.{word_from, shortened, key_of, key_before, key_byte, key_bytes}

abbrev table : Bool
table =
    -- in one word, one byte into the second, both full
    same (key_bytes (key_of (bytes "GOLD"))) (bytes "GOLD")
    && (same (key_bytes (key_of (bytes "BUND10YRS"))) (bytes "BUND10YRS")
    && (same (key_bytes (key_of (bytes "GLOBAL_EQUITIES!"))) (bytes "GLOBAL_EQUITIES!")
    -- a name before a longer one that begins with it, then by the first byte that differs; capitals before small letters
    && (key_before (key_of (bytes "A")) (key_of (bytes "AB"))
    && (key_before (key_of (bytes "AB")) (key_of (bytes "B"))
    && (not (key_before (key_of (bytes "B")) (key_of (bytes "AB")))
    && key_before (key_of (bytes "Z")) (key_of (bytes "a")))))))

pub figures : table ≡ true
unfolding same tab first_piece word_from shortened key_of key_before key_byte key_bytes
figures = refl
