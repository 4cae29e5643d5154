-- Document 01, "Arithmetic": max, min, clamp, absolute value, and whole numbers as doubles. Definitions only.
-- Sums, differences, products, quotients, comparisons, bits to double (`of_bits binary64`) and double to bits (`to_bits binary64`, 7ff8000000000000 for NaN) are the logic's own, `lib.Ieee`.
use Rattle.std.specs.Prelude.{ℕ, Bool, true, false, cond, pos, is_nan, Float}
use Rattle.std.specs.Float.{nan, inf, fin, binary64}
use Rattle.std.specs.Float.Ieee.{lt, of_int, div}
use Rattle.arithmetic.specs.Constants.{unit}

-- "Max and min with one NaN give the other number, with two NaN; of equals, the first."
unfoldable pub max_of : Float → Float → Float
max_of x y = cond (is_nan x) y (cond (lt x y) y x)

unfoldable pub min_of : Float → Float → Float
min_of x y = cond (is_nan x) y (cond (lt y x) y x)

-- "Clamp changes only a number beyond its ends, so NaN and −0 stay."
unfoldable pub clamp_of : Float → Float → Float → Float
clamp_of x low high = cond (lt x low) low (cond (lt high x) high x)

-- |x|
unfoldable pub abs_of : Float → Float
abs_of nan = nan
abs_of (inf s) = inf false
abs_of (fin s m e) = fin false m e

-- neither NaN nor an infinity
unfoldable pub finite_of : Float → Bool
finite_of nan = false
finite_of (inf s) = false
finite_of (fin s m e) = true

-- a count as a double: the nearest one, which up to 2^53 is the count itself
unfoldable pub count_of : ℕ → Float
count_of n = of_int binary64 (pos n)

-- 1/m, rounded once: "the double nearest 1/m"
unfoldable pub one_over : ℕ → Float
unfolding count_of
one_over m = div binary64 unit (count_of m)
