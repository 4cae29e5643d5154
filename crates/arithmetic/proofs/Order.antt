-- Doubles with no minus sign are ordered as their units are.
-- Assumes nothing.
use Rattle.std.proofs.Common.{◌≡◌, ℕ, ◌*◌, ◌^◌, ◌<◌, ◌≤◌, true, false, ◌&&◌, ◌||◌, eqb, ltb, leb, ◌↔◌, sym, ◌∙◌, true≢false, mul-le-mul_right, lt_of_mul-lt-mul_right, mul-lt-mul_of_pos_right, mul-pos, le_of_mul-le-mul_right, arith, pow_pos, ltb-true, le-ltb, lt-ltb, eq-eqb, ne_eqb, le-leb, leb-true}
use native.Mathlib.Decide.{dec_lt}
use lib.Ieee.{Float, nan, inf, fin, up, down, lt, le}
use lib.Ieee.Fits.{down_pos}
use lib.Ieee.Exact.{HasValue}
use borrow.Author.Tests.{lt-leb}
use Rattle.arithmetic.specs.Exact.{units_of, Plain}
use Rattle.arithmetic.proofs.Units.{cross_left, cross_right}

-- a is k / c times u, and b is k / c times v
module _ (a b c u v k : ℕ) (C : 0 < c) (K : 0 < k) (p : a * c ≡ u * k) (q : b * c ≡ v * k) where
  lt_there : a < b → u < v
  lt_there h = lt_of_mul-lt-mul_right k (rw (← p, ← q) (mul-lt-mul_of_pos_right h C))

  le_there : a ≤ b → u ≤ v
  le_there h = le_of_mul-le-mul_right (rw (← p, ← q) (mul-le-mul_right c h)) K

same_lt : (a b c u v k : ℕ) → 0 < c → 0 < k → a * c ≡ u * k → b * c ≡ v * k → ltb a b ≡ ltb u v
same_lt a b c u v k C K p q =
    elim (dec_lt a b) [
      | yes h ↦ lt-ltb a b h ∙ sym (lt-ltb u v (lt_there a b c u v k C K p q h))
      | no h ↦ let g : b ≤ a = omega arith in le-ltb a b g ∙ sym (le-ltb u v (le_there b a c v u k C K q p g))
    ]

same_le : (a b c u v k : ℕ) → 0 < c → 0 < k → a * c ≡ u * k → b * c ≡ v * k → leb a b ≡ leb u v
same_le a b c u v k C K p q =
    elim (dec_lt b a) [
      | yes h ↦ lt-leb a b h ∙ sym (lt-leb u v (lt_there b a c v u k C K q p h))
      | no h ↦ let g : a ≤ b = omega arith in le-leb a b g ∙ sym (le-leb u v (le_there a b c u v k C K p q g))
    ]

either : (a b : ℕ) → (ltb a b || (eqb a b && true)) ≡ leb a b
either a b =
    elim (dec_lt b a) [
      | yes h ↦ rw (le-ltb a b (omega arith), ne_eqb a b (λ e. omega arith), lt-leb a b h)
      | no h ↦ elim (dec_lt a b) [
        | yes g ↦ rw (lt-ltb a b g, le-leb a b (omega arith))
        | no g ↦ rw (le-ltb a b (omega arith), eq-eqb a b (omega arith), le-leb a b (omega arith))
      ]
    ]

-- by any fractions with one denominator that the two equal
pub lt_at : (x y : Float) (u v c : ℕ) → 0 < c → HasValue x false u c → HasValue y false v c → lt x y ≡ ltb u v
unfolding lt
lt_at nan y u v c C p q = absurd p
lt_at (inf s) y u v c C p q = absurd p
lt_at (fin true m e) y u v c C p q = absurd (true≢false p.0)
lt_at (fin false m e) nan u v c C p q = absurd q
lt_at (fin false m e) (inf t) u v c C p q = absurd q
lt_at (fin false m e) (fin true n d) u v c C p q = absurd (true≢false q.0)
lt_at (fin false m e) (fin false n d) u v c C p q =
    same_lt (m * up e * down d) (n * up d * down e) c u v (down e * down d) C (mul-pos (down_pos e) (down_pos d))
    (cross_left (m * up e) (down e) (down d) u c p.1) (cross_right (n * up d) (down e) (down d) v c q.1)

pub le_at : (x y : Float) (u v c : ℕ) → 0 < c → HasValue x false u c → HasValue y false v c → le x y ≡ leb u v
unfolding le
le_at nan y u v c C p q = absurd p
le_at (inf s) y u v c C p q = absurd p
le_at (fin true m e) y u v c C p q = absurd (true≢false p.0)
le_at (fin false m e) nan u v c C p q = absurd q
le_at (fin false m e) (inf t) u v c C p q = absurd q
le_at (fin false m e) (fin true n d) u v c C p q = absurd (true≢false q.0)
le_at (fin false m e) (fin false n d) u v c C p q =
    either (m * up e * down d) (n * up d * down e)
    ∙ same_le (m * up e * down d) (n * up d * down e) c u v (down e * down d) C (mul-pos (down_pos e) (down_pos d))
    (cross_left (m * up e) (down e) (down d) u c p.1) (cross_right (n * up d) (down e) (down d) v c q.1)

pub lt_is : {x y : Float} → Plain x → Plain y → lt x y ≡ ltb (units_of x) (units_of y)
lt_is {x} {y} p q = lt_at x y (units_of x) (units_of y) (2 ^ 1074) (pow_pos 1074) p.value q.value

pub le_is : {x y : Float} → Plain x → Plain y → le x y ≡ leb (units_of x) (units_of y)
le_is {x} {y} p q = le_at x y (units_of x) (units_of y) (2 ^ 1074) (pow_pos 1074) p.value q.value

pub lt_units : {x y : Float} → Plain x → Plain y → (lt x y ≡ true) ↔ (units_of x < units_of y)
lt_units {x} {y} p q = (λ h. ltb-true (units_of x) (units_of y) (sym (lt_is p q) ∙ h), λ h. lt_is p q ∙ lt-ltb (units_of x) (units_of y) h)

pub le_units : {x y : Float} → Plain x → Plain y → (le x y ≡ true) ↔ (units_of x ≤ units_of y)
le_units {x} {y} p q = (λ h. leb-true (units_of x) (units_of y) (sym (le_is p q) ∙ h), λ h. le_is p q ∙ le-leb (units_of x) (units_of y) h)
