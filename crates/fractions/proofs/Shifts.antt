-- Digits shifted: the whole part and the fraction left over of m * 2^place units, and a fraction whose digits are shifted to the left. Assumes nothing.
use Prim.Native.Nat.{ℕ, zero, suc, ◌+◌, ◌-◌, ◌*◌, ◌/◌, ◌%◌, ◌^◌, ◌≤◌, ◌<◌, min}
use mathlib.Core.Path.{◌≡◌, refl, sym, ap, ◌∙◌}
use native.Mathlib.Nat.{mul_assoc, mul-one, one-mul, zero-mul, add-zero, mul_right_comm, lt_of_lt_of_le, lt_of_not-le, mod-eq_of_lt, div-eq_of_lt, mul-mod_left, mul-add-mod_self_right}
use native.Mathlib.Omega.{arith}
use native.Mathlib.Decide.{dec_le}
use lib.Pow.{pow-lt, pow_mono, pow-add, shl-shr, shr-shr, mod-pow-add}
use Rattle.arithmetic.specs.Inner.{worth_at}
use Rattle.fractions.specs.Inner.{Holds, fraction}

-- ---- the digits of a pattern

pub digits_zero : (f t : ℕ) → f ≡ 0 → t * 2 ^ 0 ≡ worth_at f t
digits_zero zero t e = mul-one t
digits_zero (suc f) t e = absurd (omega arith)

pub digits_some : (f t : ℕ) → (f ≡ 0 → ⊥) → (t + 2 ^ 52) * 2 ^ (f - 1) ≡ worth_at f t
digits_some zero t n = absurd (n refl)
digits_some (suc j) t n =
    let m : t + 2 ^ 52 ≡ 2 ^ 52 + t = omega arith in
    let q : suc j - 1 ≡ j = omega arith in
    ap (λ (k : ℕ). k * 2 ^ (suc j - 1)) m ∙ ap (λ (k : ℕ). (2 ^ 52 + t) * 2 ^ k) q

-- ---- m * 2^p units a million times: left and right of the whole part

-- the lowest digits of x shifted are the lowest of x, shifted
lowest_shifted : (x k j : ℕ) → x % 2 ^ k * 2 ^ j ≡ x * 2 ^ j % 2 ^ (k + j)
lowest_shifted x k j =
    sym (mod-pow-add (x * 2 ^ j) k j ∙ ap (λ (y : ℕ). y % 2 ^ k * 2 ^ j + x * 2 ^ j % 2 ^ j) (shl-shr x j)
    ∙ ap (λ (y : ℕ). x % 2 ^ k * 2 ^ j + y) (mul-mod_left x (2 ^ j)) ∙ add-zero (x % 2 ^ k * 2 ^ j))

-- the low digits of m a million times, by those of m
low_is : (m : ℕ) → m % 2 ^ 32 * 1000000 % 2 ^ 32 ≡ m * 1000000 % 2 ^ 32
low_is m =
    let e : m * 1000000 ≡ m / 2 ^ 32 * 1000000 * 2 ^ 32 + m % 2 ^ 32 * 1000000 = omega arith in
    sym (ap (λ (x : ℕ). x % 2 ^ 32) e ∙ mul-add-mod_self_right (m / 2 ^ 32 * 1000000) (2 ^ 32) (m % 2 ^ 32 * 1000000))

module _ (m p : ℕ) (small : m < 2 ^ 53) (low : p ≤ 1022) where
  abbrev x : ℕ
  x = m * 1000000 / 2 ^ 32

  x_in : x < 2 ^ 41
  x_in = omega arith

  whole_at_lem : (s : ℕ) → s + p ≡ 1042 → x / 2 ^ s ≡ m * 2 ^ p * 1000000 / 2 ^ 1074
  whole_at_lem s e =
      let k : p + (32 + s) ≡ 1074 = omega arith in
      shr-shr (m * 1000000) 32 s ∙ ap (λ (y : ℕ). y / 2 ^ (32 + s)) (sym (shl-shr (m * 1000000) p)) ∙ shr-shr (m * 1000000 * 2 ^ p) p (32 + s)
      ∙ ap (λ (y : ℕ). m * 1000000 * 2 ^ p / 2 ^ y) k ∙ ap (λ (y : ℕ). y / 2 ^ 1074) (mul_right_comm m 1000000 (2 ^ p))

  left_at : (s : ℕ) → s + p ≡ 1042 → (x % 2 ^ s * 2 ^ 32 + m * 1000000 % 2 ^ 32) * 2 ^ p ≡ m * 2 ^ p * 1000000 % 2 ^ 1074
  left_at s e =
      let k : (s + 32) + p ≡ 1074 = omega arith in
      ap (λ (y : ℕ). y * 2 ^ p) (sym (mod-pow-add (m * 1000000) s 32)) ∙ lowest_shifted (m * 1000000) (s + 32) p
      ∙ ap (λ (y : ℕ). m * 1000000 * 2 ^ p % 2 ^ y) k ∙ ap (λ (y : ℕ). y % 2 ^ 1074) (mul_right_comm m 1000000 (2 ^ p))

  -- so far to the left that nothing is left of it
  far : (s : ℕ) → 63 ≤ s → x < 2 ^ s
  far s h = lt_of_lt_of_le x_in (pow_mono {i = 41} {j = s} (omega arith))

  pub whole_by : (r y s : ℕ) → y ≡ x → s ≡ min (1042 - p) 63 → r ≡ y / 2 ^ s → r ≡ m * 2 ^ p * 1000000 / 2 ^ 1074
  whole_by r y s f e g = g ∙ ap (λ (k : ℕ). k / 2 ^ s) f ∙ go (dec_le (1042 - p) 63)
    where
      go : Dec (1042 - p ≤ 63) → x / 2 ^ s ≡ m * 2 ^ p * 1000000 / 2 ^ 1074
      go (yes h) = whole_at_lem s (omega arith)
      go (no h) =
          let k : 63 < 1042 - p = lt_of_not-le h in
          div-eq_of_lt (far s (omega arith)) ∙ sym (div-eq_of_lt (far (1042 - p) (omega arith))) ∙ whole_at_lem (1042 - p) (omega arith)

  pub left_by : (r y s : ℕ) → y ≡ x → s ≡ min (1042 - p) 63 → r ≡ y % 2 ^ s → (r * 2 ^ 32 + m % 2 ^ 32 * 1000000 % 2 ^ 32) * 2 ^ p ≡ m * 2 ^ p * 1000000 % 2 ^ 1074
  left_by r y s f e g =
      ap (λ (k : ℕ). (k * 2 ^ 32 + m % 2 ^ 32 * 1000000 % 2 ^ 32) * 2 ^ p) (g ∙ ap (λ (k : ℕ). k % 2 ^ s) f)
      ∙ ap (λ (k : ℕ). (x % 2 ^ s * 2 ^ 32 + k) * 2 ^ p) (low_is m) ∙ go (dec_le (1042 - p) 63)
    where
      go : Dec (1042 - p ≤ 63) → (x % 2 ^ s * 2 ^ 32 + m * 1000000 % 2 ^ 32) * 2 ^ p ≡ m * 2 ^ p * 1000000 % 2 ^ 1074
      go (yes h) = left_at s (omega arith)
      go (no h) =
          let k : 63 < 1042 - p = lt_of_not-le h in
          ap (λ (y : ℕ). (y * 2 ^ 32 + m * 1000000 % 2 ^ 32) * 2 ^ p) (mod-eq_of_lt (far s (omega arith)) ∙ sym (mod-eq_of_lt (far (1042 - p) (omega arith))))
          ∙ left_at (1042 - p) (omega arith)

-- a power of two that a word holds
pub power : (s : ℕ) → s < 64 → 1 * 2 ^ s % 2 ^ 64 ≡ 2 ^ s
power s h = ap (λ (x : ℕ). x % 2 ^ 64) (one-mul (2 ^ s)) ∙ mod-eq_of_lt (pow-lt h)

-- ---- a fraction, one digit to the left

pub doubled : (h l p : ℕ) → 0 < p → l < 2 ^ 32 → ((h * 2 + l * 2 / 2 ^ 32) * 2 ^ 32 + l * 2 % 2 ^ 32) * 2 ^ (p - 1) ≡ (h * 2 ^ 32 + l) * 2 ^ p
doubled h l p k b =
    let e : (h * 2 + l * 2 / 2 ^ 32) * 2 ^ 32 + l * 2 % 2 ^ 32 ≡ (h * 2 ^ 32 + l) * 2 = omega arith in
    let q : 1 + (p - 1) ≡ p = omega arith in
    ap (λ (x : ℕ). x * 2 ^ (p - 1)) e ∙ mul_assoc (h * 2 ^ 32 + l) 2 (2 ^ (p - 1))
    ∙ ap (λ (x : ℕ). (h * 2 ^ 32 + l) * x) (sym (pow-add 2 1 (p - 1))) ∙ ap (λ (x : ℕ). (h * 2 ^ 32 + l) * 2 ^ x) q

-- packed as it is held, where no digit is left to shift into or the digits are full
pub packed : (h l p v : ℕ) → h < 2 ^ 41 → l < 2 ^ 32 → (0 < p → 2 ^ 40 ≤ h) → (h * 2 ^ 32 + l) * 2 ^ p ≡ v → Holds (fraction (p * 2 ^ 41 + h) l) v
packed h l p v a b f e =
    let q : (p * 2 ^ 41 + h) % 2 ^ 41 ≡ h = omega arith in
    let d : (p * 2 ^ 41 + h) / 2 ^ 41 ≡ p = omega arith in
    record {
      normal = record { low_in = b; full = λ g. full g q };
      value = ap (λ (k : ℕ). (k * 2 ^ 32 + l) * 2 ^ ((p * 2 ^ 41 + h) / 2 ^ 41)) q ∙ ap (λ (k : ℕ). (h * 2 ^ 32 + l) * 2 ^ k) d ∙ e;
    }
  where
    full : 2 ^ 41 ≤ p * 2 ^ 41 + h → (p * 2 ^ 41 + h) % 2 ^ 41 ≡ h → 2 ^ 40 ≤ (p * 2 ^ 41 + h) % 2 ^ 41
    full g q = let k = f (omega arith) in omega arith

-- nothing left over
pub nothing : (h l p : ℕ) → h ≡ 0 → l ≡ 0 → Holds (fraction 0 0) ((h * 2 ^ 32 + l) * 2 ^ p)
nothing h l p e q =
    let z : h * 2 ^ 32 + l ≡ 0 = omega arith in
    record {
      normal = record { low_in = omega arith; full = λ g. absurd (omega arith) };
      value = sym (ap (λ (x : ℕ). x * 2 ^ p) z ∙ zero-mul (2 ^ p));
    }
