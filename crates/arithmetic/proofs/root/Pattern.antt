-- The bit patterns of the values that are finite and above zero: what such a value is worth by its pattern, and which value the pattern of a root is. Assumes nothing.
use Rattle.std.proofs.Common.{◌≡◌, ℕ, zero, suc, ◌+◌, ◌-◌, ◌*◌, ◌/◌, ◌%◌, ◌^◌, ◌<◌, ◌≤◌, Bool, true, false, cond, not, T, eqb, leb, sym, refl, ap, ◌∙◌, subst, mod-eq_of_lt, add-sub_of_le, mul-le-mul_left, lt_of_not-le, mul-one, arith, eqb→eq, pow_pos}
use native.Mathlib.Decide.{dec_le}
use lib.Arith.{lt→nleb}
use lib.Dec.{nleb→lt, not_T}
use lib.Ieee.{Float, nan, inf, fin, binary64, odd, of_fields, of_bits, nan_bits}
use lib.Ieee.Bits.{is_false, cond_no}
use lib.Ieee.Exact.{HasValue, odd_sign}
use lib.Ieee.Positive.{positive, value_pos}
use Rattle.arithmetic.specs.Inner.{worth_at, worth, Positive, Near}
use Rattle.arithmetic.proofs.Facts.{pattern_no_nan}

-- ---- reading
record Reads (s : Bool) (f t : ℕ) (x : Float) : Type 0 where
  sign : s ≡ false
  field : f ≡ 2047 → ⊥
  value : HasValue x false (worth_at f t) (2 ^ 1074)

sign_of : (s : Bool) (x : Float) (a c : ℕ) → T (positive x) → HasValue x s a c → s ≡ false
sign_of s nan a c p h = absurd p
sign_of s (inf t) a c p h = absurd p
sign_of s (fin true m e) a c p h = absurd p
sign_of s (fin false m e) a c p h = sym h.0

reads_at : (s : Bool) (f t q k : ℕ) (x : Float) → (f ≡ 2047 → ⊥) → q * 2 ^ k ≡ worth_at f t → odd 53 s q k 1074 ≡ x → T (positive x) → Reads s f t x
reads_at s f t q k x g w e p =
    let h : HasValue x s (worth_at f t) (2 ^ 1074) = subst (λ (n : ℕ). HasValue x s n (2 ^ 1074)) w (subst (λ (y : Float). HasValue y s (q * 2 ^ k) (2 ^ 1074)) e (odd_sign 53 s q k 1074)) in
    let z : s ≡ false = sign_of s x (worth_at f t) (2 ^ 1074) p h in
    record { sign = z; field = g; value = subst (λ (b : Bool). HasValue x b (worth_at f t) (2 ^ 1074)) z h }

not_zero_field : ◌≡◌ {A = ℕ} 0 2047 → ⊥
not_zero_field h = omega arith

reads : (s : Bool) (f t : ℕ) (x : Float) → of_fields binary64 s f t ≡ x → T (positive x) → Reads s f t x
unfolding of_fields
reads s zero t x e p = reads_at s zero t t 0 x not_zero_field (mul-one t) e p
reads s (suc j) t x e p = go (eqb (suc j) 2047) (λ (h : suc j ≡ 2047). subst (λ (n : ℕ). T (eqb n 2047)) (sym h) tt) e
  where
    top : (b : Bool) → cond b (inf s) nan ≡ x → ⊥
    top true e = subst (λ (y : Float). T (positive y)) (sym e) p
    top false e = subst (λ (y : Float). T (positive y)) (sym e) p

    go : (b : Bool) → (suc j ≡ 2047 → T b) → cond b (cond (eqb t 0) (inf s) nan) (odd 53 s (2 ^ 52 + t) j 1074) ≡ x → Reads s (suc j) t x
    go true n e = absurd (top (eqb t 0) e)
    go false n e = reads_at s (suc j) t (2 ^ 52 + t) j x n refl e p

pub record Worth (b : ℕ) (x : Float) : Type 0 where
  pub pattern : Positive b
  pub value : HasValue x false (worth b) (2 ^ 1074)

pub worth_of_lem : (b : ℕ) (x : Float) → of_bits binary64 b ≡ x → T (positive x) → Worth b x
unfolding of_bits
worth_of_lem b x e p =
    let r = reads (leb (2 ^ 63) b) (b % 2 ^ 63 / 2 ^ 52) (b % 2 ^ 52) x e p in
    let b_lt : b < 2 ^ 63 = nleb→lt (2 ^ 63) b (subst (λ (s : Bool). T (not s)) (sym r.sign) tt) in
    let f-is : b % 2 ^ 63 / 2 ^ 52 ≡ b / 2 ^ 52 = ap (λ (n : ℕ). n / 2 ^ 52) (mod-eq_of_lt b_lt) in
    let v : HasValue x false (worth b) (2 ^ 1074) = subst (λ (f : ℕ). HasValue x false (worth_at f (b % 2 ^ 52)) (2 ^ 1074)) f-is r.value in
    record { pattern = record { above = b_pos b (value_pos x (worth b) (2 ^ 1074) p (pow_pos 1074) v); below = b_max (b % 2 ^ 63 / 2 ^ 52) f-is r.field b_lt }; value = v }
  where
    b_pos : (b : ℕ) → 0 < worth b → 0 < b
    b_pos zero h = h
    b_pos (suc b) h = omega arith

    b_max : (f : ℕ) → f ≡ b / 2 ^ 52 → (f ≡ 2047 → ⊥) → b < 2 ^ 63 → b < 2047 * 2 ^ 52
    b_max f e n l = omega arith

-- ---- writing
-- the nearest number to the root of m * 2^52 has 53 digits
either : (a b : ℕ) → (b < a → ⊥) → a ≤ b
either a b f = go (dec_le a b)
  where
    go : Dec (a ≤ b) → a ≤ b
    go (yes h) = h
    go (no g) = absurd (f (lt_of_not-le g))

at_least : (m q : ℕ) → Near (m * 2 ^ 52) q → 2 ^ 52 ≤ m → q < 2 ^ 52 → ⊥
at_least m q n l h = let k : q * suc q ≤ q * 2 ^ 52 = mul-le-mul_left q h in omega arith

pub near_least : (m q : ℕ) → Near (m * 2 ^ 52) q → 2 ^ 52 ≤ m → 2 ^ 52 ≤ q
near_least m q n l = either (2 ^ 52) q (at_least m q n l)

at_most : (m q : ℕ) → Near (m * 2 ^ 52) q → m + 2 ≤ 2 ^ 54 → 2 ^ 53 ≤ q → ⊥
at_most m q n l h = let k : q * 2 ^ 53 ≤ q * q = mul-le-mul_left q h in omega arith

pub near_most : (m q : ℕ) → Near (m * 2 ^ 52) q → m + 2 ≤ 2 ^ 54 → q < 2 ^ 53
near_most m q n l = lt_of_not-le (at_most m q n l)

-- a pattern below the infinity's is no NaN's
small_no_nan : (b : ℕ) → b < 2047 * 2 ^ 52 → T (not (nan_bits binary64 b))
small_no_nan b h = pattern_no_nan b (omega arith)

module _ (k q : ℕ) (least : 2 ^ 52 ≤ q) (most : q < 2 ^ 53) (small : k ≤ 1533) where
  pub pattern_lt : k * 2 ^ 52 + q < 2047 * 2 ^ 52
  pattern_lt = omega arith

  pub root_no_nan : T (not (nan_bits binary64 (k * 2 ^ 52 + q)))
  root_no_nan = small_no_nan (k * 2 ^ 52 + q) pattern_lt

  low_field : (k * 2 ^ 52 + q) % 2 ^ 52 ≡ q - 2 ^ 52
  low_field = omega arith

  high_field : (k * 2 ^ 52 + q) % 2 ^ 63 / 2 ^ 52 ≡ suc k
  high_field = omega arith

  no_sign : leb (2 ^ 63) (k * 2 ^ 52 + q) ≡ false
  no_sign = is_false (leb (2 ^ 63) (k * 2 ^ 52 + q)) (lt→nleb (2 ^ 63) (k * 2 ^ 52 + q) (omega arith))

  under : suc k ≡ 2047 → ⊥
  under h = omega arith

  finite_field : of_fields binary64 false (suc k) (q - 2 ^ 52) ≡ odd 53 false q k 1074
  unfolding of_fields
  finite_field =
      cond_no (eqb (suc k) 2047) (cond (eqb (q - 2 ^ 52) 0) (inf false) nan) (odd 53 false (2 ^ 52 + (q - 2 ^ 52)) k 1074) (not_T (eqb (suc k) 2047) (λ t. under (eqb→eq (suc k) 2047 t)))
      ∙ ap (λ (n : ℕ). odd 53 false n k 1074) (add-sub_of_le least)

  pub pattern_is : of_bits binary64 (k * 2 ^ 52 + q) ≡ odd 53 false q k 1074
  unfolding of_bits
  pattern_is =
      ap (λ (s : Bool). of_fields binary64 s ((k * 2 ^ 52 + q) % 2 ^ 63 / 2 ^ 52) ((k * 2 ^ 52 + q) % 2 ^ 52)) no_sign
      ∙ ap (λ (f : ℕ). of_fields binary64 false f ((k * 2 ^ 52 + q) % 2 ^ 52)) high_field
      ∙ ap (λ (t : ℕ). of_fields binary64 false (suc k) t) low_field
      ∙ finite_field
