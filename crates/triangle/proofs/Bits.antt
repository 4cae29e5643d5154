-- When two doubles have the same bits: only where they are the same, and unequal ones only where both are NaN. Assumes nothing.
use mathlib.Core.Path.{◌≡◌, refl, sym, ap, ◌∙◌}
use mathlib.Core.Bool.{Bool, true, false, not, ◌&&◌, true≢false, false≢true}
use borrow.Author.Tests.{eq-eqb, ne_eqb}
use lib.Dec.{T, eqb}
use lib.Ieee.{Float, nan, inf, fin, binary64, eq, ne, is_nan, fits, to_bits}
use Rattle.arithmetic.proofs.Facts.{other_nan, same_bits}

-- equal doubles are no NaN
pub equal_no_nan : (x y : Float) → eq x y ≡ true → T (not (is_nan x)) × T (not (is_nan y))
unfolding eq is_nan
equal_no_nan nan y e = absurd (false≢true e)
equal_no_nan (inf s) nan e = absurd (false≢true e)
equal_no_nan (inf s) (inf t) e = (tt, tt)
equal_no_nan (inf s) (fin t m k) e = (tt, tt)
equal_no_nan (fin s m k) nan e = absurd (false≢true e)
equal_no_nan (fin s m k) (inf t) e = (tt, tt)
equal_no_nan (fin s m k) (fin t n l) e = (tt, tt)

unlike : (x : Float) → eq x x ≡ false → ne x x ≡ true
unfolding ne
unlike x e = rw e refl

unequal_nan : (x y : Float) → eq x y ≡ false → x ≡ y → ne x x ≡ true
unequal_nan x y e q = unlike x (ap (eq x) q ∙ e)

-- unequal doubles have the same bits where both are NaN
unequal_bits : (x y : Float) (a b : Bool) → T (fits binary64 x) → T (fits binary64 y) → eq x y ≡ false → ne x x ≡ a → ne y y ≡ b
    → eqb (to_bits binary64 x) (to_bits binary64 y) ≡ (a && b)
unequal_bits x y true true f g e p q =
    eq-eqb (to_bits binary64 x) (to_bits binary64 y) (ap (to_bits binary64) (other_nan x p ∙ sym (other_nan y q)))
unequal_bits x y true false f g e p q =
    ne_eqb (to_bits binary64 x) (to_bits binary64 y) (λ b. true≢false (sym p ∙ ap (λ (z : Float). ne z z) (same_bits x y f g b) ∙ q))
unequal_bits x y false b f g e p q =
    ne_eqb (to_bits binary64 x) (to_bits binary64 y) (λ b. true≢false (sym (unequal_nan x y e (same_bits x y f g b)) ∙ p))

-- in the shape of the code's tests
pub and_unequal : (before z : Bool) (x y : Float) → T (fits binary64 x) → T (fits binary64 y) → eq x y ≡ false → z ≡ (before && ne x x)
    → (z && ne y y) ≡ (before && eqb (to_bits binary64 x) (to_bits binary64 y))
and_unequal true z x y f g e q = rw q (sym (unequal_bits x y (ne x x) (ne y y) f g e refl refl))
and_unequal false z x y f g e q = rw q refl
