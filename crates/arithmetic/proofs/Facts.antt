-- Facts on doubles that the proofs here and in the crates above cite. Assumes nothing.
use Rattle.std.proofs.Common.{◌≡◌, ℕ, ◌+◌, ◌*◌, ◌%◌, ◌^◌, ◌<◌, ◌≤◌, Bool, true, false, not, T, ℤ, sym, refl, ap, ◌∙◌, subst, true≢false, arith, le-ltb, lt-ltb, eq-eqb}
use mathlib.Core.Bool.{false≢true}
use lib.Ieee.{Float, nan, inf, fin, binary64, up, down, neg, div, lt, ne, is_nan, fits, of_bits, to_bits, nan_bits}
use lib.Ieee.Bits.{of_bits-to_bits, to_bits-lt, nan_bits_is, nan_bits_above}
use lib.Ieee.Fits.{neg-fits}
use Rattle.arithmetic.specs.Constants.{pz}
use Rattle.arithmetic.specs.Arithmetic.{abs_of, finite_of}

-- ---- tests

pub truth : {b : Bool} → b ≡ true → T b
truth e = subst T (sym e) tt

pub untruth : {b : Bool} → b ≡ false → T (not b)
untruth e = subst (λ (t : Bool). T (not t)) (sym e) tt

-- ---- bits

-- two doubles with the same bits are the same
pub same_bits : (x y : Float) → T (fits binary64 x) → T (fits binary64 y) → to_bits binary64 x ≡ to_bits binary64 y → x ≡ y
same_bits x y f g e = sym (of_bits-to_bits binary64 x f) ∙ ap (of_bits binary64) e ∙ of_bits-to_bits binary64 y g

-- ---- NaN

-- x != x is how the code asks for a NaN
pub differs : (x : Float) → ne x x ≡ is_nan x
unfolding ne is_nan
differs nan = refl
differs (inf true) = refl
differs (inf false) = refl
differs (fin true m e) = rw (eq-eqb (m * up e * down e) (m * up e * down e) refl)
differs (fin false m e) = rw (eq-eqb (m * up e * down e) (m * up e * down e) refl)

pub nan_if : (x : Float) (b : Bool) → ne x x ≡ b → is_nan x ≡ b
nan_if x b e = sym (differs x) ∙ e

pub is_nan_lem : (x : Float) → is_nan x ≡ true → x ≡ nan
unfolding is_nan
is_nan_lem nan e = refl
is_nan_lem (inf s) e = absurd (false≢true e)
is_nan_lem (fin s m k) e = absurd (false≢true e)

-- only NaN differs from itself
pub other_nan : (x : Float) → ne x x ≡ true → x ≡ nan
other_nan x e = is_nan_lem x (nan_if x true e)

pub same_no_nan : (x : Float) → ne x x ≡ false → T (not (is_nan x))
same_no_nan x e = untruth (nan_if x false e)

-- how the code makes a NaN
pub made_nan : div binary64 pz pz ≡ nan
unfolding div of_bits
made_nan = refl

-- ---- bit patterns

-- a pattern is a NaN's where it is above the infinity's, the sign's bit aside
pub pattern_nan : (b : ℕ) → 0x7ff0_0000_0000_0000 < b % 2 ^ 63 → of_bits binary64 b ≡ nan
pattern_nan b h = is_nan_lem (of_bits binary64 b) (sym (nan_bits_is binary64 b) ∙ nan_bits_above binary64 b ∙ lt-ltb _ _ h)

pub pattern_no_nan : (b : ℕ) → b % 2 ^ 63 ≤ 0x7ff0_0000_0000_0000 → T (not (nan_bits binary64 b))
pattern_no_nan b h = untruth (nan_bits_above binary64 b ∙ le-ltb _ _ h)

-- the sign's bit, and what is left without it
sign_add : (t k n : ℕ) → t + k + n ≡ t + (0 + k + n)
sign_add t k n = omega arith

sign_bit : (m : ℕ) (e : ℤ) → to_bits binary64 (fin true m e) ≡ 2 ^ 63 + to_bits binary64 (fin false m e)
unfolding to_bits
sign_bit m e = sign_add (2 ^ 63) _ _

no_sign : (s : Bool) (m : ℕ) (e : ℤ) → T (fits binary64 (fin s m e)) → T (fits binary64 (fin false m e)) × (to_bits binary64 (fin s m e) % 2 ^ 63 ≡ to_bits binary64 (fin false m e))
unfolding neg
no_sign true m e f =
    let h = to_bits-lt binary64 (fin true m e) f in
    let g = sign_bit m e in
    (neg-fits binary64 (fin true m e) f, omega arith)
no_sign false m e f =
    let h = to_bits-lt binary64 (fin true m e) (neg-fits binary64 (fin false m e) f) in
    let g = sign_bit m e in
    (f, omega arith)

never : of_bits binary64 (to_bits binary64 nan % 2 ^ 63) ≡ nan
unfolding to_bits of_bits
never = refl

infinite : (s : Bool) → of_bits binary64 (to_bits binary64 (inf s) % 2 ^ 63) ≡ inf false
unfolding to_bits of_bits
infinite true = refl
infinite false = refl

-- |x| is what the other bits give
pub abs_bits : (x : Float) → T (fits binary64 x) → of_bits binary64 (to_bits binary64 x % 2 ^ 63) ≡ abs_of x
unfolding abs_of
abs_bits nan f = never
abs_bits (inf s) f = infinite s
abs_bits (fin s m e) f = let p = no_sign s m e f in ap (of_bits binary64) p.1 ∙ of_bits-to_bits binary64 (fin false m e) p.0

-- ---- the infinities

pub finite_above : (x : Float) → lt (inf true) x ≡ true → lt x (inf false) ≡ finite_of x
unfolding lt finite_of
finite_above nan h = refl
finite_above (inf true) h = absurd (false≢true h)
finite_above (inf false) h = refl
finite_above (fin s m e) h = refl

pub finite_not : (x : Float) → lt (inf true) x ≡ false → lt (inf true) x ≡ finite_of x
unfolding lt finite_of
finite_not nan h = refl
finite_not (inf true) h = refl
finite_not (inf false) h = absurd (true≢false h)
finite_not (fin s m e) h = absurd (true≢false h)
