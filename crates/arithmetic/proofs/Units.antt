-- A double is a whole number of units of 2 ^ -1074, and of no more than 53 binary digits times a power of two.
-- Assumes nothing.
use Rattle.std.proofs.Common.{◌≡◌, ℕ, zero, suc, ◌+◌, ◌-◌, ◌*◌, ◌/◌, ◌%◌, ◌^◌, ◌<◌, ◌≤◌, Bool, true, false, ◌&&◌, T, eqb, ltb, leb, ℤ, pos, negsuc, sym, refl, ap, ◌∙◌, subst, true≢false, lt_of_lt_of_le, lt_irrefl, mul_assoc, mul_comm, lt_of_mul-lt-mul_right, mul-lt-mul_of_pos_right, zero-mul, mul-one, mul_right_comm, mul-div_cancel, arith, ltb→lt, leb→le, pow_pos, pow-add}
use native.Mathlib.Nat.{eq_of_mul-eq-mul_right}
use native.Mathlib.Decide.{dec_lt}
use lib.Pow.{pow-lt}
use lib.Ieee.{Float, nan, inf, fin, binary64, up, down, fits, size, hid, of_bits, to_bits}
use lib.Ieee.Bits.{of_bits-to_bits}
use lib.Ieee.Digits.{back}
use lib.Ieee.Fits.{and_l, and_r, down_pos}
use lib.Ieee.Exact.{HasValue}
use lib.Ieee.Positive.{num, den, den_pos, value→cross}
use Rattle.arithmetic.specs.Exact.{units_of, plain, Plain}

-- m * 2 ^ e is m * 2 ^ place units
pub record Short (m : ℕ) (e : ℤ) : Type 0 where
  pub place : ℕ
  pub is : m * up e * 2 ^ 1074 ≡ m * 2 ^ place * down e

under : (j L : ℕ) → 2 ^ j ≤ 2 ^ L → j ≤ L
under j L h =
    elim (dec_lt L j) [
      | yes lt ↦ absurd (lt_irrefl (2 ^ L) (lt_of_lt_of_le (pow-lt lt) h))
      | no ge ↦ omega arith
    ]

-- a power of two taken apart
pub apart_at : (m d L : ℕ) → d ≤ L → m * 2 ^ L ≡ m * 2 ^ (L - d) * 2 ^ d
apart_at m d L h = ap (λ (x : ℕ). m * 2 ^ x) (sym (back L d h)) ∙ ap (λ (x : ℕ). m * x) (pow-add 2 (L - d) d) ∙ sym (mul_assoc m (2 ^ (L - d)) (2 ^ d))

up_is : (m k L : ℕ) → m * 2 ^ k * 2 ^ L ≡ m * 2 ^ (k + L) * 1
up_is m k L = rw (pow-add 2 k L, mul-one (m * (2 ^ k * 2 ^ L)), mul_assoc m (2 ^ k) (2 ^ L))

down_is : (m j L : ℕ) → j ≤ L → m * 1 * 2 ^ L ≡ m * 2 ^ (L - j) * 2 ^ j
down_is m j L h = ap (λ (x : ℕ). x * 2 ^ L) (mul-one m) ∙ apart_at m j L h

short : (m : ℕ) (e : ℤ) → down e ≤ 2 ^ 1074 → Short m e
short m (pos k) h = record { place = k + 1074; is = up_is m k 1074 }
short m (negsuc k) h = record { place = 1074 - suc k; is = down_is m (suc k) 1074 (under (suc k) 1074 h) }

pub units_are : (x : Float) (s : Bool) (a : ℕ) → HasValue x s a (2 ^ 1074) → units_of x ≡ a
units_are nan s a h = absurd h
units_are (inf t) s a h = absurd h
units_are (fin t m e) s a h = ap (λ (z : ℕ). z / down e) h.1 ∙ mul-div_cancel a (down_pos e)

fits_down : (s : Bool) (m : ℕ) (e : ℤ) → T (fits binary64 (fin s (suc m) e)) → down e ≤ 2 ^ 1074
unfolding fits
fits_down s m e t =
    let a : Bool = eqb (suc m % 2) 1 && ltb (suc m) (2 ^ 53) in
    let b : Bool = leb (down e) (2 ^ 1074) in
    leb→le (down e) (2 ^ 1074) (and_r a b (and_l (a && b) (ltb (suc m * up e) (2 ^ 1024 * down e)) t))

fits_small : (s : Bool) (m : ℕ) (e : ℤ) → T (fits binary64 (fin s (suc m) e)) → suc m < 2 ^ 53
unfolding fits
fits_small s m e t =
    let a : Bool = eqb (suc m % 2) 1 in
    let b : Bool = ltb (suc m) (2 ^ 53) in
    let c : Bool = leb (down e) (2 ^ 1074) in
    ltb→lt (suc m) (2 ^ 53) (and_r a b (and_l (a && b) c (and_l (a && b && c) (ltb (suc m * up e) (2 ^ 1024 * down e)) t)))

-- at most 53 digits times a power of two
pub record Digits (u : ℕ) : Type 0 where
  pub digits : ℕ
  pub place : ℕ
  pub is : u ≡ digits * 2 ^ place
  pub small : digits < 2 ^ 53

fits_below : (s : Bool) (m : ℕ) (e : ℤ) → T (fits binary64 (fin s (suc m) e)) → suc m * up e < 2 ^ 1024 * down e
unfolding fits
fits_below s m e t =
    let a : Bool = eqb (suc m % 2) 1 && ltb (suc m) (2 ^ 53) && leb (down e) (2 ^ 1074) in
    ltb→lt (suc m * up e) (2 ^ 1024 * down e) (and_r a (ltb (suc m * up e) (2 ^ 1024 * down e)) t)

zero_value : (s : Bool) (e : ℤ) → HasValue (fin s zero e) s 0 (2 ^ 1074)
zero_value s e = (refl, ap (λ (y : ℕ). y * 2 ^ 1074) (zero-mul (up e)) ∙ zero-mul (2 ^ 1074) ∙ sym (zero-mul (down e)))

pub digits_of_lem : (y : Float) → T (fits binary64 y) → Digits (units_of y)
digits_of_lem nan f = record { digits = 0; place = 0; is = refl; small = pow_pos 53 }
digits_of_lem (inf s) f = record { digits = 0; place = 0; is = refl; small = pow_pos 53 }
digits_of_lem (fin s zero e) f = record { digits = 0; place = 0; is = units_are (fin s zero e) s 0 (zero_value s e); small = pow_pos 53 }
digits_of_lem (fin s (suc m) e) f =
    let h = short (suc m) e (fits_down s m e f) in
    record { digits = suc m; place = h.place; is = units_are (fin s (suc m) e) s (suc m * 2 ^ h.place) (refl, h.is); small = fits_small s m e f }

-- a finite double is exactly its units
pub exact : (x : Float) → T (fits binary64 x) → T (plain x) → HasValue x false (units_of x) (2 ^ 1074)
exact nan f p = absurd p
exact (inf s) f p = absurd p
exact (fin true m e) f p = absurd p
exact (fin false zero e) f p = subst (λ (n : ℕ). HasValue (fin false zero e) false n (2 ^ 1074)) (sym (units_are (fin false zero e) false 0 (zero_value false e))) (zero_value false e)
exact (fin false (suc m) e) f p =
    let h = short (suc m) e (fits_down false m e f) in
    subst (λ (n : ℕ). HasValue (fin false (suc m) e) false n (2 ^ 1074)) (sym (units_are (fin false (suc m) e) false (suc m * 2 ^ h.place) (refl, h.is))) (refl, h.is)

pub plain_value : (x : Float) (a c : ℕ) → HasValue x false a c → T (plain x)
plain_value nan a c h = h
plain_value (inf s) a c h = h
plain_value (fin true m e) a c h = absurd (true≢false h.0)
plain_value (fin false m e) a c h = tt

pub plainly : (x : Float) (a c : ℕ) → T (fits binary64 x) → HasValue x false a c → Plain x
plainly x a c f h = record { double = f; value = exact x f (plain_value x a c h) }

pub plain_is : {x : Float} → Plain x → T (plain x)
plain_is {x} p = plain_value x (units_of x) (2 ^ 1074) p.value

-- X / E is u / L and is below B, so u is below B * L
scaled_below : (X E u L B : ℕ) → 0 < L → X * L ≡ u * E → X < B * E → u < B * L
scaled_below X E u L B l e h = lt_of_mul-lt-mul_right E (rw (← e, mul_right_comm B L E) (mul-lt-mul_of_pos_right h l))

under_units : (x : Float) → T (fits binary64 x) → T (plain x) → units_of x < 2 ^ 2098
under_units nan f p = absurd p
under_units (inf s) f p = absurd p
under_units (fin true m e) f p = absurd p
under_units (fin false zero e) f p = subst (λ (n : ℕ). n < 2 ^ 2098) (sym (units_are (fin false zero e) false 0 (zero_value false e))) (pow_pos 2098)
under_units (fin false (suc m) e) f p =
    scaled_below (suc m * up e) (down e) (units_of (fin false (suc m) e)) (2 ^ 1074) (2 ^ 1024) (pow_pos 1074) (exact (fin false (suc m) e) f p).1 (fits_below false m e f)

-- a finite double is below 2^1024
pub units_below : {x : Float} → Plain x → units_of x < 2 ^ 2098
units_below {x} p = under_units x p.double (plain_is p)

cross : (n d u a p L : ℕ) → 0 < d → n * L ≡ u * d → n * (p * L) ≡ a * d → u * p ≡ a
cross n d u a p L D h k = eq_of_mul-eq-mul_right d D (u * p) a (mul_right_comm u p d ∙ ap (λ (z : ℕ). z * p) (sym h) ∙ mul_assoc n L p ∙ ap (λ (z : ℕ). n * z) (mul_comm L p) ∙ k)

-- X / E is a / c: so is X * D / (E * D), in either order of the two
pub cross_left : (X E D a c : ℕ) → X * c ≡ a * E → X * D * c ≡ a * (E * D)
cross_left X E D a c p = mul_right_comm X D c ∙ ap (λ (z : ℕ). z * D) p ∙ mul_assoc a E D

pub cross_right : (Y E D b c : ℕ) → Y * c ≡ b * D → Y * E * c ≡ b * (E * D)
cross_right Y E D b c p = cross_left Y D E b c p ∙ ap (λ (z : ℕ). b * z) (mul_comm D E)

-- a double that is a / (2 ^ d * 2 ^ 1074)
pub units_scaled : (x : Float) (a d : ℕ) → T (fits binary64 x) → HasValue x false a (2 ^ d * 2 ^ 1074) → units_of x * 2 ^ d ≡ a
units_scaled x a d f h =
    cross (num x) (den x) (units_of x) a (2 ^ d) (2 ^ 1074) (den_pos x) (value→cross x (units_of x) (2 ^ 1074) (exact x f (plain_value x a (2 ^ d * 2 ^ 1074) h))) (value→cross x a (2 ^ d * 2 ^ 1074) h)

-- ---- two doubles with no minus sign and the same units are one: their patterns are
pattern_of : ℕ → ℕ
unfolding size
pattern_of u = 0 + (size u - 53) * hid binary64 + u / 2 ^ (size u - 53)

pattern : (x : Float) → T (plain x) → to_bits binary64 x ≡ pattern_of (units_of x)
unfolding pattern_of to_bits
pattern nan p = absurd p
pattern (inf s) p = absurd p
pattern (fin true m e) p = absurd p
pattern (fin false m e) p = refl

pub units_alone : (x y : Float) → T (fits binary64 x) → T (fits binary64 y) → T (plain x) → T (plain y) → units_of x ≡ units_of y → x ≡ y
units_alone x y f g p q e =
    sym (of_bits-to_bits binary64 x f) ∙ ap (of_bits binary64) (pattern x p ∙ ap pattern_of e ∙ sym (pattern y q)) ∙ of_bits-to_bits binary64 y g
