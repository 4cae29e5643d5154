-- Whole numbers as doubles: products and sums of exact values round once, so that `count`, which joins two halves, is the nearest double. Assumes nothing.
use Rattle.std.proofs.Common.{◌≡◌, ℕ, ◌+◌, ◌*◌, ◌/◌, ◌%◌, ◌^◌, ◌<◌, ◌≤◌, false, T, pos, sym, refl, ap, ◌∙◌, subst, lt_of_lt_of_le, le_of_lt, zero-lt-suc, mul_assoc, div-add-mod', mul-one, arith, lit≤, le→leb, pow_mono, pow-add, shl_lt}
use lib.Ieee.{Float, binary64, add, mul, of_int, in_float, of_bits}
use lib.Ieee.Exact.{HasValue, round_exact}
use lib.Ieee.Back.{round_whole}
use Rattle.arithmetic.specs.Arithmetic.{count_of}
use Rattle.arithmetic.proofs.Sums.{add_at}
use Rattle.arithmetic.proofs.Halves.{mul_at}

-- ---- a count in two halves

-- a whole number up to 2^53 is its own double
pub count_value : (n : ℕ) → n ≤ 2 ^ 53 → HasValue (of_int binary64 (pos n)) false n 1
unfolding of_int
count_value n h = round_whole binary64 false n h

-- 2^32
abbrev pub step : Float
step = of_bits binary64 0x41f0_0000_0000_0000

step_value : HasValue step false (2 ^ 32) 1
unfolding of_bits
step_value = (refl, refl)

lifted_value : (a : ℕ) → a < 2 ^ 32 → HasValue (mul binary64 (of_int binary64 (pos a)) step) false (a * 2 ^ 32) 1
lifted_value a h =
    let l : a < 2 ^ 53 = omega arith in
    let p : a * 2 ^ 1106 < 2 ^ 2098 = lt_of_lt_of_le (shl_lt 32 1106 h) (pow_mono {i = 1138} {j = 2098} (lit≤ tt)) in
    let e : a * 2 ^ 32 * 2 ^ 1074 ≡ a * 2 ^ 1106 * 1 = mul_assoc a (2 ^ 32) (2 ^ 1074) ∙ ap (λ (z : ℕ). a * z) (sym (pow-add 2 32 1074)) ∙ sym (mul-one (a * 2 ^ 1106)) in
    subst (λ (x : Float). HasValue x false (a * 2 ^ 32) 1) (sym (mul_at binary64 (of_int binary64 (pos a)) step a 1 (2 ^ 32) 1 (zero-lt-suc 0) (zero-lt-suc 0) (count_value a (le_of_lt l)) step_value))
    (round_exact binary64 false (a * 2 ^ 32) 1 a 1106 (zero-lt-suc 0) l p e)

halves : (a b : ℕ) → a < 2 ^ 32 → b < 2 ^ 32 → add binary64 (mul binary64 (of_int binary64 (pos a)) step) (of_int binary64 (pos b)) ≡ count_of (a * 2 ^ 32 + b)
unfolding count_of of_int
halves a b h k = add_at binary64 (mul binary64 (of_int binary64 (pos a)) step) (of_int binary64 (pos b)) (a * 2 ^ 32) b 1 (zero-lt-suc 0) (lifted_value a h) (count_value b (omega arith))

pub counted : (n : ℕ) → n < 2 ^ 64 → add binary64 (mul binary64 (of_int binary64 (pos (n / 2 ^ 32))) step) (of_int binary64 (pos (n % 2 ^ 32))) ≡ count_of n
counted n h = halves (n / 2 ^ 32) (n % 2 ^ 32) (omega arith) (omega arith) ∙ ap count_of (div-add-mod' n (2 ^ 32))

-- what a cast asks
pub castable : (n : ℕ) → n ≤ 2 ^ 53 → T (in_float binary64 (pos n))
unfolding in_float
castable n h = le→leb n (2 ^ 53) h
