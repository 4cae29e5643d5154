-- Document 01, "Arithmetic": the square root, "+0, −0 and +infinity give themselves; NaN and negatives give NaN; else no double is nearer to the exact root, stated over whole numbers".
-- `root` computes it; `NearerThan` says what it means, and proofs/Meaning.antt that `root` meets it. Definitions only.
use Rattle.std.specs.Prelude.{ℕ, zero, suc, ◌+◌, ◌-◌, ◌*◌, ◌/◌, ◌^◌, ◌<◌, true, false, cond, nat_le, Float}
use Rattle.std.specs.Float.{nan, inf, fin}
use Rattle.std.specs.Float.Ieee.{size, odd}
use Rattle.arithmetic.specs.Exact.{whole}

-- s + 1 if its square is at most v, else s
abbrev pub isqrt_step : ℕ → ℕ → ℕ
isqrt_step v s = cond (nat_le ((s + 1) * (s + 1)) v) (s + 1) s

-- the largest number whose square is at most v, for a v below 4^d: twice the root of v / 4, or one more
unfoldable pub isqrt : ℕ → ℕ → ℕ
isqrt zero v = 0
isqrt (suc d) v = isqrt_step v (2 * isqrt d (v / 4))

-- The root of a double of n units is √v units, with v = n * 2^1074. Its whole part has (size v + 1) / 2 binary digits, of which a double keeps 53 and drops k.
abbrev pub dropped : ℕ → ℕ
dropped v = (size v + 1) / 2 - 53

-- √(v / 4^k) to the nearest whole number: half of √(4 * v / 4^k), cut to a whole number and rounded up. (It is never halfway between two whole numbers.)
abbrev pub kept : ℕ → ℕ → ℕ
kept v k = (isqrt 54 (v * 4 / (2 ^ k * 2 ^ k)) + 1) / 2

unfoldable pub root : Float → Float
unfolding isqrt size odd
root nan = nan
root (inf false) = inf false
root (inf true) = nan
root (fin s zero e) = fin s zero e
root (fin true (suc m) e) = nan
root (fin false (suc m) e) =
    let v = whole (suc m) e * 2 ^ 1074 in
    let k = dropped v in
    odd 53 false (kept v k) k 1074

-- Of two numbers r and b, r is the nearer to √v, or they are equal: the number halfway between them, (r + b) / 2, lies on b's side of √v.
-- Said of the squares: ((r + b) / 2)^2 against v.
pub record Nearer (v r b : ℕ) : Type 0 where
  pub below : b < r → (r + b) * (r + b) < v * 4
  pub above : r < b → v * 4 < (r + b) * (r + b)

-- r units are nearer to √v units than the double y is, or are y itself. A y below zero is farther from √v than zero is.
abbrev pub NearerThan : ℕ → ℕ → Float → Type 0
NearerThan v r nan = Unit
NearerThan v r (inf s) = Unit
NearerThan v r (fin true m e) = r * r < v * 4
NearerThan v r (fin false m e) = Nearer v r (whole m e)
