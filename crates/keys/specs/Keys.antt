-- Document 02, request 5: "Names are listed in byte order". A name is held as two numbers, which compare as its bytes do. Definitions only.
use Rattle.std.specs.Prelude.{ℕ, zero, suc, ◌+◌, ◌-◌, ◌*◌, ◌/◌, ◌%◌, Bool, cond, ◌&&◌, List, ltb, eqb, get_or}
use Rattle.lent.specs.Grid.{tab}
use Rattle.fields.specs.Split.{first_piece}
use Rattle.keys.specs.declared.Key.{Key}

-- k bytes from a place on as a number in base 256, the first the highest; a byte past the end is 0
unfoldable pub word_from : List ℕ → ℕ → ℕ → ℕ
word_from s from zero = 0
word_from s from (suc k) = word_from s from k * 256 + get_or s (from + k) 0

-- a name of up to 16 bytes: its first eight and its last eight
unfoldable pub key_of : List ℕ → Key
unfolding word_from
key_of s = record { high = word_from s 0 8; low = word_from s 8 8 }

unfoldable pub key_same : Key → Key → Bool
key_same x y = eqb x.high y.high && eqb x.low y.low

-- "Names are listed in byte order": the first word decides, the second where the first are equal
unfoldable pub key_before : Key → Key → Bool
key_before x y = cond (eqb x.high y.high) (ltb x.low y.low) (ltb x.high y.high)

-- ---- the name again

-- a number without its last k bytes
unfoldable pub shortened : ℕ → ℕ → ℕ
shortened zero w = w
shortened (suc k) w = shortened k w / 256

-- byte i of the sixteen
unfoldable pub key_byte : Key → ℕ → ℕ
unfolding shortened
key_byte x i = cond (ltb i 8) (shortened (7 - i) x.high % 256) (shortened (15 - i) x.low % 256)

-- the name: the bytes before the first that is 0
unfoldable pub key_bytes : Key → List ℕ
unfolding tab key_byte first_piece
key_bytes x = first_piece 0 (tab 16 (key_byte x))
