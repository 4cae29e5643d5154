-- The sum of two doubles with no minus sign is their exact sum, rounded once; and is the exact sum itself where that has at most 53 digits and is below 2^1024.
-- Assumes nothing.
use Rattle.std.proofs.Common.{◌≡◌, ℕ, ◌+◌, ◌*◌, ◌^◌, ◌<◌, true, false, ℤ, sym, refl, ap, ◌∙◌, subst, true≢false, add-mul, mul-pos, pow_pos}
use lib.Ieee.{Float, nan, inf, fin, Format, binary64, up, down, round, add}
use lib.Ieee.Fits.{down_pos, add-fits}
use lib.Ieee.Exact.{HasValue, round_exact}
use lib.Ieee.Scale.{round_same}
use Rattle.arithmetic.specs.Exact.{units_of, Plain}
use Rattle.arithmetic.proofs.Units.{Digits, cross_left, cross_right, units_are, plainly}

-- X / E is a / c and Y / D is b / c, so X / E + Y / D is (a + b) / c
together : (X Y E D a b c : ℕ) → X * c ≡ a * E → Y * c ≡ b * D → (X * D + Y * E) * c ≡ (a + b) * (E * D)
together X Y E D a b c p q =
    add-mul (X * D) (Y * E) c ∙ ap (λ (z : ℕ). z + Y * E * c) (cross_left X E D a c p) ∙ ap (λ (z : ℕ). a * (E * D) + z) (cross_right Y E D b c q) ∙ sym (add-mul a b (E * D))

opened : (f : Format) (m : ℕ) (e : ℤ) (n : ℕ) (d : ℤ) → add f (fin false m e) (fin false n d) ≡ round f false (m * up e * down d + n * up d * down e) (down e * down d)
unfolding add
opened f m e n d = refl

-- by any fractions with one denominator that the terms equal
pub add_at : (f : Format) (x y : Float) (a b c : ℕ) → 0 < c → HasValue x false a c → HasValue y false b c → add f x y ≡ round f false (a + b) c
add_at f nan y a b c C p q = absurd p
add_at f (inf s) y a b c C p q = absurd p
add_at f (fin true m e) y a b c C p q = absurd (true≢false p.0)
add_at f (fin false m e) nan a b c C p q = absurd q
add_at f (fin false m e) (inf t) a b c C p q = absurd q
add_at f (fin false m e) (fin true n d) a b c C p q = absurd (true≢false q.0)
add_at f (fin false m e) (fin false n d) a b c C p q =
    opened f m e n d
    ∙ round_same f false (m * up e * down d + n * up d * down e) (down e * down d) (a + b) c (mul-pos (down_pos e) (down_pos d)) C
    (together (m * up e) (n * up d) (down e) (down d) a b c p.1 q.1)

pub sum_is : {x y : Float} → Plain x → Plain y → add binary64 x y ≡ round binary64 false (units_of x + units_of y) (2 ^ 1074)
sum_is {x} {y} p q = add_at binary64 x y (units_of x) (units_of y) (2 ^ 1074) (pow_pos 1074) p.value q.value

-- ---- nothing lost
pub sum_value : {x y : Float} → Plain x → Plain y → Digits (units_of x + units_of y) → units_of x + units_of y < 2 ^ 2098
    → HasValue (add binary64 x y) false (units_of x + units_of y) (2 ^ 1074)
sum_value {x} {y} p q d h =
    let u = units_of x + units_of y in
    subst (λ (z : Float). HasValue z false u (2 ^ 1074)) (sym (sum_is p q))
    (round_exact binary64 false u (2 ^ 1074) d.digits d.place (pow_pos 1074) d.small (subst (λ (z : ℕ). z < 2 ^ 2098) d.is h) (ap (λ (z : ℕ). z * 2 ^ 1074) d.is))

pub sum_plain : {x y : Float} → Plain x → Plain y → Digits (units_of x + units_of y) → units_of x + units_of y < 2 ^ 2098 → Plain (add binary64 x y)
sum_plain {x} {y} p q d h = plainly (add binary64 x y) (units_of x + units_of y) (2 ^ 1074) (add-fits binary64 x y) (sum_value p q d h)

pub sum_units : {x y : Float} → Plain x → Plain y → Digits (units_of x + units_of y) → units_of x + units_of y < 2 ^ 2098 → units_of (add binary64 x y) ≡ units_of x + units_of y
sum_units {x} {y} p q d h = units_are (add binary64 x y) false (units_of x + units_of y) (sum_value p q d h)
