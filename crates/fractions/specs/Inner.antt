-- What the private functions ask of one another and promise: may be skipped. Definitions only.
use Rattle.std.specs.Prelude.{ℕ, ◌+◌, ◌*◌, ◌/◌, ◌%◌, ◌^◌, ◌≤◌, ◌<◌, ◌≡◌, true, List, length, get_or, Float}
use Rattle.fields.specs.Split.{all}
use Rattle.fractions.specs.Fractions.{in_range, whole_part, left_over, left_at}
use Rattle.fractions.specs.declared.Digits.{Digits}
use Rattle.fractions.specs.declared.Fraction.{Fraction}
use Rattle.fractions.specs.declared.Parts.{Parts}

-- a units are m * 2^place, with m of at most 53 digits
pub record Worth (d : Digits) (a : ℕ) : Type 0 where
  pub small : d.m < 2 ^ 53
  pub low : d.place ≤ 1022
  pub value : d.m * 2 ^ d.place ≡ a

-- (high * 2^32 + low) * 2^place units, where top is place * 2^41 + high
abbrev pub value_of : Fraction → ℕ
value_of x = (x.top % 2 ^ 41 * 2 ^ 32 + x.low) * 2 ^ (x.top / 2 ^ 41)

-- the digits are full unless the place is 0
pub record Normal (x : Fraction) : Type 0 where
  pub low_in : x.low < 2 ^ 32
  pub full : 2 ^ 41 ≤ x.top → 2 ^ 40 ≤ x.top % 2 ^ 41

-- x is so many units, in that form
pub record Holds (x : Fraction) (v : ℕ) : Type 0 where
  pub normal : Normal x
  pub value : value_of x ≡ v

abbrev pub fraction : ℕ → ℕ → Fraction
fraction top low = record { top = top; low = low }

-- the whole part and the fraction left over of a weight
pub record Exactly (p : Parts) (w : Float) : Type 0 where
  pub whole_is : p.whole ≡ whole_part w
  pub left_is : Holds p.left (left_over w)

-- fraction k of a list
abbrev pub fraction_at : List Fraction → ℕ → Fraction
fraction_at left k = get_or left k (fraction 0 0)

abbrev pub value_at : List Fraction → ℕ → ℕ
value_at left k = value_of (fraction_at left k)

-- a list that holds the fractions of the first n weights
pub record Keyed (ws : List Float) (n : ℕ) (left : List Fraction) : Type 0 where
  pub same_length : length left ≡ length ws
  pub held : (k : ℕ) → k < n → Holds (fraction_at left k) (left_at ws k)

-- each of at most 64 fractions is in that form
pub record AllKeyed (left : List Fraction) : Type 0 where
  pub few : length left ≤ 64
  pub normal : (k : ℕ) → k < length left → Normal (fraction_at left k)

-- weights that are not refused
pub record Fillable (ws : List Float) (wholes ranks : ℕ) : Type 0 where
  pub few : length ws ≤ 64
  pub wholes_roomy : length ws ≤ wholes
  pub ranks_roomy : length ws ≤ ranks
  pub ranged : all in_range ws ≡ true
