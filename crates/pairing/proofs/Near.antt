-- |z| ≤ e as two comparisons. Assumes nothing.
use Prim.Native.Nat.{ℕ, zero, suc, ◌+◌, ◌*◌, ◌<◌}
use mathlib.Core.Path.{◌≡◌, refl, sym, ◌∙◌}
use mathlib.Core.Bool.{Bool, true, false, ◌&&◌, ◌||◌, and-true}
use native.Mathlib.Omega.{arith}
use borrow.Author.Tests.{lt-ltb}
use lib.IntN.{ℤ}
use lib.Dec.{ltb, eqb, eqb-zero-suc, eqb-suc-zero, eqb-suc-suc}
use native.Mathlib.Nat.{mul-pos, zero-lt-suc}
use lib.Ieee.Fits.{up_pos, down_pos}
use lib.Ieee.{below, level, Float, nan, inf, fin, binary64, up, down, neg, sub, of_bits, lt, eq, le}
use Rattle.arithmetic.specs.Arithmetic.{abs_of}
use Rattle.pairing.specs.Pairing.{near, eps}

eqb_comm : (a b : ℕ) → eqb a b ≡ eqb b a
eqb_comm zero zero = refl
eqb_comm zero (suc b) = eqb-zero-suc b ∙ sym (eqb-suc-zero b)
eqb_comm (suc a) zero = eqb-suc-zero a ∙ sym (eqb-zero-suc a)
eqb_comm (suc a) (suc b) = eqb-suc-suc a b ∙ eqb_comm a b ∙ sym (eqb-suc-suc b a)

-- a is one of the numbers from -b up to b, b being above 0; where a has the sign s
inside : (s : Bool) (a b : ℕ) → 0 < b
    → (ltb a b || (eqb a b && true)) ≡ ((below true b s a || level true b s a) && (below s a false b || level s a false b))
inside true a b h = rw (lt-ltb 0 (a + b) (omega arith), eqb_comm a b) (sym (and-true (ltb a b || (eqb b a && true))))
inside false a b h = rw (lt-ltb 0 (b + a) (omega arith)) refl

within : (z : Float) (m : ℕ) (e : ℤ) → 0 < m → le (abs_of z) (fin false m e) ≡ le (fin true m e) z && le z (fin false m e)
unfolding le lt eq abs_of
within nan m e h = refl
within (inf true) m e h = refl
within (inf false) m e h = refl
within (fin s a k) m e h = inside s (a * up k * down e) (m * up e * down k) (mul-pos (mul-pos h (up_pos e)) (down_pos k))

pub near_is : (x y : Float) → near x y ≡ le (neg eps) (sub binary64 x y) && le (sub binary64 x y) eps
unfolding near neg of_bits
near_is x y = within (sub binary64 x y) _ _ (zero-lt-suc _)
