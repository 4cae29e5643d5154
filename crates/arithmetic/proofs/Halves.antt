-- One, halved d times, is exactly 2^-d; and a product by it is exact where it drops none of the digits.
-- Assumes nothing.
use Rattle.std.proofs.Common.{◌≡◌, ℕ, zero, suc, ◌-◌, ◌*◌, ◌^◌, ◌<◌, ◌≤◌, Bool, true, false, T, ℤ, sym, refl, ap, ◌∙◌, subst, true≢false, lt_of_le_of_lt, mul_assoc, mul_comm, mul-pos, one-mul, pow-suc, mul_right_comm, le-mul_of_pos_right, arith, lit<, pow_pos}
use native.Mathlib.Nat.{mul-mul-mul_comm}
use lib.Pow.{pow-lt}
use lib.Count.{count_trailing_zeros}
use lib.Ieee.{Float, nan, inf, fin, Format, up, down, unlike, binary64, round, units, odd, size, span, climb, of_bits, of_fields, mul, sub, add, sum, neg, fits}
use lib.Ieee.Fits.{down_pos, round-fits, mul-fits}
use lib.Ieee.Exact.{HasValue, round_exact}
use lib.Ieee.Scale.{round_same}
use Rattle.arithmetic.specs.Constants.{unit, half}
use Rattle.arithmetic.specs.Exact.{units_of, Plain, halves}
use Rattle.arithmetic.proofs.Units.{Digits, apart_at, plainly, units_scaled, units_below}

-- ---- the product of two doubles with no minus sign is their exact product, rounded once

opened : (f : Format) (m : ℕ) (e : ℤ) (n : ℕ) (d : ℤ) → mul f (fin false m e) (fin false n d) ≡ round f false (m * up e * (n * up d)) (down e * down d)
unfolding mul
opened f m e n d = refl

-- by any fractions that the factors equal
pub mul_at : (f : Format) (x y : Float) (a c b d : ℕ) → 0 < c → 0 < d → HasValue x false a c → HasValue y false b d → mul f x y ≡ round f false (a * b) (c * d)
mul_at f nan y a c b d C D p q = absurd p
mul_at f (inf s) y a c b d C D p q = absurd p
mul_at f (fin true m e) y a c b d C D p q = absurd (true≢false p.0)
mul_at f (fin false m e) nan a c b d C D p q = absurd q
mul_at f (fin false m e) (inf t) a c b d C D p q = absurd q
mul_at f (fin false m e) (fin true n k) a c b d C D p q = absurd (true≢false q.0)
mul_at f (fin false m e) (fin false n k) a c b d C D p q =
    let M = m * up e in
    let N = n * up k in
    opened f m e n k
    ∙ round_same f false (M * N) (down e * down k) (a * b) (c * d) (mul-pos (down_pos e) (down_pos k)) (mul-pos C D)
    (mul-mul-mul_comm M N c d ∙ ap (λ (z : ℕ). z * (N * d)) p.1 ∙ ap (λ (z : ℕ). a * down e * z) q.1 ∙ mul-mul-mul_comm a (down e) b (down k))

unlike_comm : (s t : Bool) → unlike s t ≡ unlike t s
unlike_comm true true = refl
unlike_comm true false = refl
unlike_comm false true = refl
unlike_comm false false = refl

-- a product does not turn on the order of its factors
pub mul_swap : (f : Format) (x y : Float) → mul f x y ≡ mul f y x
unfolding mul
mul_swap f nan nan = refl
mul_swap f nan (inf t) = refl
mul_swap f nan (fin t n d) = refl
mul_swap f (inf s) nan = refl
mul_swap f (inf s) (inf t) = ap inf (unlike_comm s t)
mul_swap f (inf s) (fin t n d) = rw (unlike_comm s t)
mul_swap f (fin s m e) nan = refl
mul_swap f (fin s m e) (inf t) = rw (unlike_comm s t)
mul_swap f (fin s m e) (fin t n d) =
    ap (λ (u : Bool). round f u (m * up e * (n * up d)) (down e * down d)) (unlike_comm s t)
    ∙ ap (λ (z : ℕ). round f (unlike t s) z (down e * down d)) (mul_comm (m * up e) (n * up d))
    ∙ ap (λ (z : ℕ). round f (unlike t s) (n * up d * (m * up e)) z) (mul_comm (down e) (down d))

-- ---- one, halved d times

-- the other side's factor is a half too
pub other_half : sub binary64 unit half ≡ half
unfolding of_bits of_fields odd count_trailing_zeros sub add sum neg round units size span climb
other_half = refl

half_value : HasValue half false 1 2
unfolding of_bits of_fields odd count_trailing_zeros
half_value = (refl, refl)

unit_is : unit ≡ round binary64 false 1 1
unfolding of_bits of_fields odd count_trailing_zeros round units size span climb
unit_is = refl

low_power : (d L M : ℕ) → L < M → 1 * 2 ^ (L - d) < 2 ^ M
low_power d L M h = subst (λ (x : ℕ). x < 2 ^ M) (sym (one-mul (2 ^ (L - d)))) (pow-lt (omega arith))

round_value : (d : ℕ) → d ≤ 1074 → HasValue (round binary64 false 1 (2 ^ d)) false 1 (2 ^ d)
round_value d h = round_exact binary64 false 1 (2 ^ d) 1 (1074 - d) (pow_pos d) (lit< tt) (low_power d 1074 2098 (omega arith)) (apart_at 1 d 1074 h)

halves_are : (d : ℕ) → d ≤ 1074 → halves d ≡ round binary64 false 1 (2 ^ d)
unfolding halves
halves_are zero h = unit_is
halves_are (suc d) h =
    ap (λ (x : Float). mul binary64 x half) (halves_are d (omega arith))
    ∙ mul_at binary64 (round binary64 false 1 (2 ^ d)) half 1 (2 ^ d) 1 2 (pow_pos d) (lit< tt) (round_value d (omega arith)) half_value
    ∙ ap (λ (x : ℕ). round binary64 false 1 x) (sym (pow-suc 2 d))

pub halves_value : (d : ℕ) → d ≤ 1074 → HasValue (halves d) false 1 (2 ^ d)
halves_value d h = subst (λ (x : Float). HasValue x false 1 (2 ^ d)) (sym (halves_are d h)) (round_value d h)

-- a fraction and the same fraction with both its numbers multiplied
widen : (x : Float) (a c L : ℕ) → HasValue x false a c → HasValue x false (a * L) (c * L)
widen nan a c L h = h
widen (inf s) a c L h = h
widen (fin s m e) a c L h = (h.0, sym (mul_assoc (m * up e) c L) ∙ ap (λ (z : ℕ). z * L) h.1 ∙ mul_right_comm a (down e) L)

halves_fits : (d : ℕ) → d ≤ 1074 → T (fits binary64 (halves d))
halves_fits d h = subst (λ (x : Float). T (fits binary64 x)) (sym (halves_are d h)) (round-fits binary64 false 1 (2 ^ d))

pub halves_plain : (d : ℕ) → d ≤ 1074 → Plain (halves d)
halves_plain d h = plainly (halves d) 1 (2 ^ d) (halves_fits d h) (halves_value d h)

pub halves_units : (d : ℕ) → d ≤ 1074 → units_of (halves d) * 2 ^ d ≡ 2 ^ 1074
halves_units d h = units_scaled (halves d) (1 * 2 ^ 1074) d (halves_fits d h) (widen (halves d) 1 (2 ^ d) (2 ^ 1074) (halves_value d h))

-- ---- times a double whose last d binary places are free: u = digits * 2^place units, with d ≤ place
scaled : (q j d X : ℕ) → d ≤ j → q * 2 ^ j * X ≡ q * 2 ^ (j - d) * (2 ^ d * X)
scaled q j d X h = ap (λ (z : ℕ). z * X) (apart_at q d j h) ∙ mul_assoc (q * 2 ^ (j - d)) (2 ^ d) X

smaller : (u q j d B : ℕ) → d ≤ j → u ≡ q * 2 ^ j → u < B → q * 2 ^ (j - d) < B
smaller u q j d B l e h = lt_of_le_of_lt (le-mul_of_pos_right (q * 2 ^ (j - d)) (pow_pos d)) (rw (← apart_at q d j l, ← e) h)

pub halved_value : {x : Float} (d : ℕ) → d ≤ 1074 → Plain x → (g : Digits (units_of x)) → d ≤ g.place → HasValue (mul binary64 (halves d) x) false (units_of x) (2 ^ d * 2 ^ 1074)
halved_value {x} d D p g l =
    let u = units_of x in
    let q = g.digits in
    let j = g.place in
    let is : u ≡ q * 2 ^ j = g.is in
    let r = round_exact binary64 false u (2 ^ d * 2 ^ 1074) q (j - d) (mul-pos (pow_pos d) (pow_pos 1074)) g.small (smaller u q j d (2 ^ 2098) l is (units_below p)) (ap (λ (z : ℕ). z * 2 ^ 1074) is ∙ scaled q j d (2 ^ 1074) l) in
    subst (λ (z : Float). HasValue z false u (2 ^ d * 2 ^ 1074))
    (sym (mul_at binary64 (halves d) x 1 (2 ^ d) u (2 ^ 1074) (pow_pos d) (pow_pos 1074) (halves_value d D) p.value ∙ ap (λ (z : ℕ). round binary64 false z (2 ^ d * 2 ^ 1074)) (one-mul u)))
    r

pub halved_plain : {x : Float} (d : ℕ) → d ≤ 1074 → Plain x → (g : Digits (units_of x)) → d ≤ g.place → Plain (mul binary64 (halves d) x)
halved_plain {x} d D p g l = plainly (mul binary64 (halves d) x) (units_of x) (2 ^ d * 2 ^ 1074) (mul-fits binary64 (halves d) x) (halved_value d D p g l)

pub halved_units : {x : Float} (d : ℕ) → d ≤ 1074 → Plain x → (g : Digits (units_of x)) → d ≤ g.place → units_of (mul binary64 (halves d) x) * 2 ^ d ≡ units_of x
halved_units {x} d D p g l = units_scaled (mul binary64 (halves d) x) (units_of x) d (mul-fits binary64 (halves d) x) (halved_value d D p g l)

-- with the factors in the other order
pub plain_halved : {x : Float} (d : ℕ) → d ≤ 1074 → Plain x → (g : Digits (units_of x)) → d ≤ g.place → Plain (mul binary64 x (halves d))
plain_halved {x} d D p g l = subst Plain (mul_swap binary64 (halves d) x) (halved_plain d D p g l)

pub units_halved : {x : Float} (d : ℕ) → d ≤ 1074 → Plain x → (g : Digits (units_of x)) → d ≤ g.place → units_of (mul binary64 x (halves d)) * 2 ^ d ≡ units_of x
units_halved {x} d D p g l = subst (λ (z : Float). units_of z * 2 ^ d ≡ units_of x) (mul_swap binary64 (halves d) x) (halved_units d D p g l)
