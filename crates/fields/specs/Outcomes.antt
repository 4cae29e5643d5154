-- What a call answers, in the words of the definitions. Definitions only.
use Rattle.std.specs.Prelude.{ℕ, Option, Float}

-- a double that was read, if the bytes have its form
abbrev pub Cell : Type 0
Cell = Option Float

-- a number that was read, if the bytes have its form
abbrev pub Numeral : Type 0
Numeral = Option ℕ
