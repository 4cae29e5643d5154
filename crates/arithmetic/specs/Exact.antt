-- Document 01, "Arithmetic": exact values over whole numbers. "A finite double stands for its whole multiple of 2^-1074", a unit. Definitions only.
use Rattle.std.specs.Prelude.{◌≡◌, ℕ, zero, suc, ◌+◌, ◌-◌, ◌*◌, ◌/◌, ◌^◌, ◌<◌, Bool, true, false, T, ◌⊎◌, ℤ, Float}
use Rattle.std.specs.Float.{nan, inf, fin, binary64}
use Rattle.std.specs.Float.Ieee.{up, down, fits, mul}
use Rattle.std.specs.Float.Ieee.Exact.{HasValue}
use Rattle.std.specs.Float.Ieee.Scale.{finite}
use Rattle.arithmetic.specs.Constants.{unit, half}

-- m * 2^e in units: for a double the division leaves nothing over (`Plain`)
abbrev pub whole : ℕ → ℤ → ℕ
whole m e = m * up e * 2 ^ 1074 / down e

-- how many units a finite double is, without its sign
abbrev pub units_of : Float → ℕ
units_of nan = 0
units_of (inf s) = 0
units_of (fin s m e) = whole m e

-- finite, and with no minus sign
abbrev pub plain : Float → Bool
plain nan = false
plain (inf s) = false
plain (fin true m e) = false
plain (fin false m e) = true

-- x is a double with no minus sign and is units_of x / 2^1074 exactly: of x = m * 2^e the value says m * up e * 2^1074 ≡ units_of x * down e
pub record Plain (x : Float) : Type 0 where
  pub double : T (fits binary64 x)
  pub value : HasValue x false (units_of x) (2 ^ 1074)

-- "one, halved exactly once for each split above it"
unfoldable pub halves : ℕ → Float
halves zero = unit
halves (suc d) = mul binary64 (halves d) half

-- how far two numbers lie apart
abbrev pub apart : ℕ → ℕ → ℕ
apart a b = (a - b) + (b - a)

-- how far m times a finite double lies from one, in units
abbrev pub off : ℕ → Float → ℕ
off m nan = 0
off m (inf s) = 0
off m (fin true a e) = m * units_of (fin true a e) + 2 ^ 1074
off m (fin false a e) = apart (m * units_of (fin false a e)) (2 ^ 1074)

-- x is a double, and every other double is farther from 1/m: both distances are taken m times
pub record Nearest (m : ℕ) (x : Float) : Type 0 where
  pub exact : Plain x
  pub nearest : (y : Float) → T (fits binary64 y) → T (finite y) → (y ≡ x) ⊎ (off m x < off m y)
