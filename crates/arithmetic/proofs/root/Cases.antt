-- Which values the tests of `sqrt` leave. Assumes nothing.
use Rattle.std.proofs.Common.{◌≡◌, ℕ, zero, suc, ◌*◌, ◌<◌, Bool, true, false, not, ◌&&◌, ◌||◌, T, eqb, ℤ, pos, sym, refl, ap, ◌∙◌, subst, true≢false, lt_irrefl, zero-lt-suc, mul-pos, zero-mul, eqb→eq, ltb→lt, lt→ltb}
use mathlib.Core.Bool.{beq, false≢true}
use lib.Ieee.{Float, nan, inf, fin, up, down, is_nan, lt, eq}
use lib.Ieee.Fits.{up_pos, and_l}
use lib.Ieee.Positive.{positive}
use Rattle.arithmetic.specs.Root.{root}
use Rattle.arithmetic.proofs.Facts.{truth}

abbrev pub nought : Float
nought = fin false 0 (pos 0)

lie : {b : Bool} → T b → b ≡ false → ⊥
lie t e = subst T e t

-- the two sides of a comparison with zero
abbrev here : ℕ → ℤ → ℕ
here m e = m * up e * 1

abbrev none : ℤ → ℕ
none e = 0 * 1 * down e

none_is : (e : ℤ) → none e ≡ 0
none_is e = zero-mul (down e)

here_zero : (e : ℤ) → here zero e ≡ 0
here_zero e = ap (λ (x : ℕ). x * 1) (zero-mul (up e))

here_pos : (m : ℕ) (e : ℤ) → 0 < here (suc m) e
here_pos m e = mul-pos (mul-pos (zero-lt-suc m) (up_pos e)) (zero-lt-suc 0)

same_zero : (a b : ℕ) (r : Bool) → a ≡ 0 → b ≡ 0 → T (eqb a b && (r || eqb a 0))
same_zero a b r p q = subst (λ (x : ℕ). T (eqb x b && (r || eqb x 0))) (sym p) (subst (λ (x : ℕ). T (eqb 0 x && (r || eqb 0 0))) (sym q) (or_true r))
  where
    or_true : (r : Bool) → T (true && (r || true))
    or_true true = tt
    or_true false = tt

pub is_number : (y x : Float) → lt y x ≡ true → T (not (is_nan x))
unfolding lt is_nan
is_number nan nan a = absurd (false≢true a)
is_number (inf s) nan a = absurd (false≢true a)
is_number (fin s m e) nan a = absurd (false≢true a)
is_number y (inf s) a = tt
is_number y (fin s m e) a = tt

pub is_positive : (x : Float) → lt nought x ≡ true → lt x (inf false) ≡ true → T (positive x)
unfolding lt
is_positive nan a b = absurd (false≢true a)
is_positive (inf true) a b = absurd (false≢true a)
is_positive (inf false) a b = absurd (false≢true b)
is_positive (fin true m e) a b = absurd (false≢true a)
is_positive (fin false zero e) a b = absurd (lt_irrefl 0 (subst (λ (x : ℕ). 0 < x) (here_zero e) (subst (λ (x : ℕ). x < here zero e) (none_is e) (ltb→lt (none e) (here zero e) (truth a)))))
is_positive (fin false (suc m) e) a b = lt→ltb 0 (suc m) (zero-lt-suc m)

pub is_infinite : (x : Float) → lt nought x ≡ true → lt x (inf false) ≡ false → x ≡ root x
unfolding lt root
is_infinite nan a b = absurd (false≢true a)
is_infinite (inf true) a b = absurd (false≢true a)
is_infinite (inf false) a b = refl
is_infinite (fin s m e) a b = absurd (true≢false b)

pub is_zero : (x : Float) → eq x nought ≡ true → x ≡ root x
unfolding eq root
is_zero nan a = absurd (false≢true a)
is_zero (inf s) a = absurd (false≢true a)
is_zero (fin s zero e) a = refl
is_zero (fin s (suc m) e) a =
    absurd (lt_irrefl 0 (subst (λ (x : ℕ). 0 < x)
    (eqb→eq (here (suc m) e) (none e) (and_l (eqb (here (suc m) e) (none e)) (beq s false || eqb (here (suc m) e) 0) (truth a)) ∙ none_is e) (here_pos m e)))

pub is_negative : (x : Float) → lt nought x ≡ false → eq x nought ≡ false → nan ≡ root x
unfolding lt eq root
is_negative nan a b = refl
is_negative (inf true) a b = refl
is_negative (inf false) a b = absurd (true≢false a)
is_negative (fin s zero e) a b = absurd (lie (same_zero (here zero e) (none e) (beq s false) (here_zero e) (none_is e)) b)
is_negative (fin true (suc m) e) a b = refl
is_negative (fin false (suc m) e) a b = absurd (lie (lt→ltb (none e) (here (suc m) e) (subst (λ (x : ℕ). x < here (suc m) e) (sym (none_is e)) (here_pos m e))) a)
