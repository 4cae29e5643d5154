-- What the private functions ask of one another and promise: may be skipped. Definitions only.
-- The square root's, and the bit pattern of a double above zero and finite: how many units of 2^-1074 it is worth (the millionths' too).
use Rattle.std.specs.Prelude.{◌≡◌, ℕ, zero, suc, ◌+◌, ◌*◌, ◌/◌, ◌%◌, ◌^◌, ◌<◌, ◌≤◌}

-- by the exponent's field and the digits' field
abbrev pub worth_at : ℕ → ℕ → ℕ
worth_at zero t = t
worth_at (suc j) t = (2 ^ 52 + t) * 2 ^ j

abbrev pub worth : ℕ → ℕ
worth b = worth_at (b / 2 ^ 52) (b % 2 ^ 52)

-- a pattern of a double above zero and below the infinity
pub record Positive (b : ℕ) : Type 0 where
  pub above : 0 < b
  pub below : b < 2047 * 2 ^ 52

-- a units are m * 4^k of the units' 2^1022th parts, with m of 53 or 54 digits
pub record Radicand (a m k : ℕ) : Type 0 where
  pub value : a * 2 ^ 1022 ≡ m * (2 ^ k * 2 ^ k)
  pub least : 2 ^ 52 ≤ m
  pub most : m + 2 ≤ 2 ^ 54
  pub small : k ≤ 1533

-- q is √v to the nearest whole number: (q - 1/2)^2 < v < (q + 1/2)^2, multiplied out
pub record Near (v q : ℕ) : Type 0 where
  pub low : q * q < v + q
  pub high : v ≤ q * q + q
