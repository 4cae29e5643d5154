-- What the pattern of a double is worth, and whether it is in range. Assumes nothing.
use Prim.Native.Nat.{ℕ, zero, suc, ◌+◌, ◌*◌, ◌/◌, ◌%◌, ◌^◌, ◌≤◌, ◌<◌}
use mathlib.Core.Path.{◌≡◌, refl, sym, ap, ◌∙◌, subst}
use mathlib.Core.Bool.{Bool, true, false, cond, true≢false}
use mathlib.Core.Logic.{⊎_elim}
use native.Mathlib.Nat.{mul-one, mul-pos, mul-le-mul_right, mul-lt-mul_of_pos_right, le_trans, le_of_lt, lt_of_not-le, mul-le-mul, lt_of_lt_of_le}
use native.Mathlib.Omega.{arith}
use native.Mathlib.Decide.{dec_le}
use borrow.Author.Tests.{eq-eqb, ne_eqb, le-leb, lt-leb, leb-true, leb-false}
use lib.Dec.{T, eqb, leb, lit<, lit≤}
use lib.Pow.{pow_pos, pow_mono}
use lib.Ieee.{Float, nan, inf, fin, binary64, fits, odd, of_fields, of_bits, to_bits}
use lib.Ieee.Bits.{of_bits-to_bits, to_bits-lt}
use lib.Ieee.Exact.{HasValue, odd_sign}
use Rattle.arithmetic.specs.Exact.{units_of}
use Rattle.arithmetic.specs.Inner.{worth_at, worth}
use Rattle.arithmetic.proofs.Units.{units_are}
use Rattle.lent.proofs.Laws.{either, same_or_not}
use Rattle.fractions.specs.Fractions.{in_range}

-- ---- what a pattern is worth

worth_pos : (f t : ℕ) → 0 < f + t → 0 < worth_at f t
worth_pos zero t h = omega arith
worth_pos (suc j) t h = mul-pos (omega arith) (pow_pos j)

worth_large : (f t : ℕ) → 1023 * 2 ^ 52 < f * 2 ^ 52 + t → t < 2 ^ 52 → 2 ^ 1074 < worth_at f t
worth_large zero t h l = absurd (omega arith)
worth_large (suc j) t h l = go (dec_le 1023 j)
  where
    go : Dec (1023 ≤ j) → 2 ^ 1074 < (2 ^ 52 + t) * 2 ^ j
    go (yes k) =
        let a : 2 ^ 52 ≤ 2 ^ 52 + t = omega arith in
        lt_of_lt_of_le (lit< {m = 2 ^ 1074} {n = 2 ^ 52 * 2 ^ 1023} tt) (mul-le-mul a (pow_mono k))
    go (no k) =
        let e : j ≡ 1022 = omega (arith, lt_of_not-le k) in
        let a : 2 ^ 52 < 2 ^ 52 + t = omega arith in
        subst (λ (i : ℕ). 2 ^ 1074 < (2 ^ 52 + t) * 2 ^ i) (sym e) (mul-lt-mul_of_pos_right a (pow_pos 1022))

worth_small : (f t : ℕ) → f * 2 ^ 52 + t ≤ 1023 * 2 ^ 52 → t < 2 ^ 52 → worth_at f t ≤ 2 ^ 1074
worth_small zero t h l = le_trans (le_of_lt l) (pow_mono {i = 52} {j = 1074} (lit≤ tt))
worth_small (suc j) t h l = go (dec_le j 1021)
  where
    go : Dec (j ≤ 1021) → (2 ^ 52 + t) * 2 ^ j ≤ 2 ^ 1074
    go (yes k) = let a : 2 ^ 52 + t ≤ 2 ^ 53 = omega arith in mul-le-mul a (pow_mono k)
    go (no k) =
        let e : j ≡ 1022 = omega (arith, lt_of_not-le k) in
        let a : 2 ^ 52 + t ≤ 2 ^ 52 = omega arith in
        subst (λ (i : ℕ). (2 ^ 52 + t) * 2 ^ i ≤ 2 ^ 1074) (sym e) (mul-le-mul_right (2 ^ 1022) a)

-- ---- a double by its fields

units_fields : (s : Bool) (f t : ℕ) → (f ≡ 2047 → ⊥) → units_of (of_fields binary64 s f t) ≡ worth_at f t
unfolding of_fields
units_fields s zero t n = units_are (odd 53 s t 0 1074) s t (subst (λ (a : ℕ). HasValue (odd 53 s t 0 1074) s a (2 ^ 1074)) (mul-one t) (odd_sign 53 s t 0 1074))
units_fields s (suc j) t n = rw (ne_eqb (suc j) 2047 n) (units_are (odd 53 s (2 ^ 52 + t) j 1074) s ((2 ^ 52 + t) * 2 ^ j) (odd_sign 53 s (2 ^ 52 + t) j 1074))

-- by the sign and the units
abbrev ranged : Bool → ℕ → Bool
ranged true a = eqb a 0
ranged false a = leb a (2 ^ 1074)

of_value : (x : Float) (s : Bool) (a : ℕ) → HasValue x s a (2 ^ 1074) → in_range x ≡ ranged s a
unfolding in_range
of_value nan s a h = absurd h
of_value (inf t) s a h = absurd h
of_value (fin true m e) s a h = rw (← h.0, units_are (fin true m e) s a h)
of_value (fin false m e) s a h = rw (← h.0, units_are (fin false m e) s a h)

of_fields_lem : (s : Bool) (f t : ℕ) → (f ≡ 2047 → ⊥) → in_range (of_fields binary64 s f t) ≡ ranged s (worth_at f t)
unfolding of_fields
of_fields_lem s zero t n = of_value (odd 53 s t 0 1074) s t (subst (λ (a : ℕ). HasValue (odd 53 s t 0 1074) s a (2 ^ 1074)) (mul-one t) (odd_sign 53 s t 0 1074))
of_fields_lem s (suc j) t n = rw (ne_eqb (suc j) 2047 n) (of_value (odd 53 s (2 ^ 52 + t) j 1074) s ((2 ^ 52 + t) * 2 ^ j) (odd_sign 53 s (2 ^ 52 + t) j 1074))

-- an infinity or a NaN
of_top : (s : Bool) (f t : ℕ) → f ≡ 2047 → in_range (of_fields binary64 s f t) ≡ false
unfolding of_fields in_range
of_top s zero t e = absurd (omega arith)
of_top s (suc j) t e = rw (eq-eqb (suc j) 2047 e) (go (eqb t 0))
  where
    go : (b : Bool) → in_range (cond b (inf s) nan) ≡ false
    go true = refl
    go false = refl

minus_zero : in_range (of_bits binary64 (2 ^ 63)) ≡ true
unfolding of_bits of_fields in_range
minus_zero = refl

-- ---- a double by its pattern

module _ (b : ℕ) where
  fields : (s : Bool) → leb (2 ^ 63) b ≡ s → in_range (of_bits binary64 b) ≡ in_range (of_fields binary64 s (b % 2 ^ 63 / 2 ^ 52) (b % 2 ^ 52))
  unfolding of_bits
  fields s e = ap (λ (t : Bool). in_range (of_fields binary64 t (b % 2 ^ 63 / 2 ^ 52) (b % 2 ^ 52))) e

  outside : 1023 * 2 ^ 52 < b → (b ≡ 2 ^ 63 → ⊥) → b < 2 ^ 64 → in_range (of_bits binary64 b) ≡ false
  outside h n l = go (dec_le 2047 (b % 2 ^ 63 / 2 ^ 52)) (dec_le (2 ^ 63) b)
    where
      go : Dec (2047 ≤ b % 2 ^ 63 / 2 ^ 52) → Dec (2 ^ 63 ≤ b) → in_range (of_bits binary64 b) ≡ false
      go (yes e) d = fields (leb (2 ^ 63) b) refl ∙ of_top (leb (2 ^ 63) b) (b % 2 ^ 63 / 2 ^ 52) (b % 2 ^ 52) (omega arith)
      go (no e) (yes d) =
          let p = worth_pos (b % 2 ^ 63 / 2 ^ 52) (b % 2 ^ 52) (omega arith) in
          fields true (le-leb (2 ^ 63) b d) ∙ of_fields_lem true (b % 2 ^ 63 / 2 ^ 52) (b % 2 ^ 52) (λ z. e (omega arith))
          ∙ ne_eqb (worth_at (b % 2 ^ 63 / 2 ^ 52) (b % 2 ^ 52)) 0 (λ z. omega arith)
      go (no e) (no d) =
          let g : b < 2 ^ 63 = lt_of_not-le d in
          fields false (lt-leb (2 ^ 63) b g) ∙ of_fields_lem false (b % 2 ^ 63 / 2 ^ 52) (b % 2 ^ 52) (λ z. e (omega arith))
          ∙ lt-leb (worth_at (b % 2 ^ 63 / 2 ^ 52) (b % 2 ^ 52)) (2 ^ 1074) (worth_large (b % 2 ^ 63 / 2 ^ 52) (b % 2 ^ 52) (omega arith) (omega arith))

  inside : b ≤ 1023 * 2 ^ 52 → in_range (of_bits binary64 b) ≡ true
  inside h =
      let g : b < 2 ^ 63 = omega arith in
      fields false (lt-leb (2 ^ 63) b g) ∙ of_fields_lem false (b % 2 ^ 63 / 2 ^ 52) (b % 2 ^ 52) (λ e. omega arith)
      ∙ le-leb (worth_at (b % 2 ^ 63 / 2 ^ 52) (b % 2 ^ 52)) (2 ^ 1074) (worth_small (b % 2 ^ 63 / 2 ^ 52) (b % 2 ^ 52) (omega arith) (omega arith))

  units_bits : b % 2 ^ 63 ≤ 1023 * 2 ^ 52 → units_of (of_bits binary64 b) ≡ worth (b % 2 ^ 63)
  unfolding of_bits
  units_bits h =
      let e : b % 2 ^ 52 ≡ b % 2 ^ 63 % 2 ^ 52 = omega arith in
      units_fields (leb (2 ^ 63) b) (b % 2 ^ 63 / 2 ^ 52) (b % 2 ^ 52) (λ z. omega arith) ∙ ap (worth_at (b % 2 ^ 63 / 2 ^ 52)) e

-- ---- a double by the bits that the code reads

module _ (w : Float) (f : T (fits binary64 w)) (b : ℕ) (is : b ≡ to_bits binary64 w) where
  back : w ≡ of_bits binary64 b
  back = sym (of_bits-to_bits binary64 w f) ∙ ap (of_bits binary64) (sym is)

  pub range_zero : b ≡ 2 ^ 63 → true ≡ in_range w
  range_zero e = sym (ap in_range back ∙ ap (λ (k : ℕ). in_range (of_bits binary64 k)) e ∙ minus_zero)

  pub range_bits : (b ≡ 2 ^ 63 → ⊥) → leb b (1023 * 2 ^ 52) ≡ in_range w
  range_bits n =
      ⊎_elim
      (λ e. e ∙ sym (ap in_range back ∙ inside b (leb-true b (1023 * 2 ^ 52) e)))
      (λ e. e ∙ sym (ap in_range back ∙ outside b (leb-false b (1023 * 2 ^ 52) e) n (omega (arith, to_bits-lt binary64 w f))))
      (either (leb b (1023 * 2 ^ 52)))

  -- without its sign, a weight that is in range has bits up to those of 1
  pub up_to_one : in_range w ≡ true → b % 2 ^ 63 ≤ 1023 * 2 ^ 52
  up_to_one r =
      ⊎_elim
      (λ e. let l : b ≤ 1023 * 2 ^ 52 = leb-true b (1023 * 2 ^ 52) e in omega arith)
      (λ e. ⊎_elim (λ z. omega arith) (λ n. absurd (true≢false (sym r ∙ sym (range_bits n) ∙ e))) (same_or_not b (2 ^ 63)))
      (either (leb b (1023 * 2 ^ 52)))

  pub units_worth : b % 2 ^ 63 ≤ 1023 * 2 ^ 52 → worth (b % 2 ^ 63) ≡ units_of w
  units_worth h = sym (ap units_of back ∙ units_bits b h)
