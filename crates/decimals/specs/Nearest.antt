-- When a double is the nearest to a fraction with a sign, over whole numbers: "a finite double stands for its whole multiple of 2^-1074", a unit. Definitions only.
use Rattle.std.specs.Prelude.{◌≡◌, Bool, cond, ◌⊎◌, ℕ, ◌+◌, ◌*◌, ◌^◌, ◌<◌, T, Float}
use Rattle.std.specs.Bool.{beq}
use Rattle.std.specs.Float.{nan, inf, fin, binary64}
use Rattle.std.specs.Float.Ieee.{fits}
use Rattle.std.specs.Float.Ieee.Exact.{HasValue}
use Rattle.std.specs.Float.Ieee.Scale.{finite}
use Rattle.arithmetic.specs.Exact.{units_of, apart}

-- how far a finite double lies from n / d with the sign s (minus where s is true): in units, times d
abbrev pub gap : Bool → ℕ → ℕ → Float → ℕ
gap s n d nan = 0
gap s n d (inf t) = 0
gap s n d (fin t m e) = cond (beq s t) (apart (n * 2 ^ 1074) (units_of (fin t m e) * d)) (n * 2 ^ 1074 + units_of (fin t m e) * d)

-- x is a double with the sign s, is units_of x / 2^1074 exactly, and every double of another size is farther from n / d with that sign.
-- So none is exactly as far, and "halves to even" never has to decide.
pub record NearestTo (s : Bool) (n d : ℕ) (x : Float) : Type 0 where
  pub double : T (fits binary64 x)
  pub exact : HasValue x s (units_of x) (2 ^ 1074)
  pub nearest : (y : Float) → T (fits binary64 y) → T (finite y) → (units_of y ≡ units_of x) ⊎ (gap s n d x < gap s n d y)
