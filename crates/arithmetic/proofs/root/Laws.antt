-- Laws of arithmetic that several functions' proofs use. Assumes nothing.
use Rattle.std.proofs.Common.{◌≡◌, ℕ, zero, suc, ◌+◌, ◌-◌, ◌*◌, ◌/◌, ◌%◌, ◌^◌, ◌<◌, ◌≤◌, Bool, true, false, not, T, leb, sym, refl, ap, ◌∙◌, subst, le_trans, le_of_eq, lt_of_le_of_lt, le_of_lt, mul-le-mul_right, mod-eq_of_lt, mul_assoc, add_comm, suc-add, mul-le-mul_left, lt_of_not-le, div-add-mod', not-le_of_lt, arith, lit≤, leb→le, pow_mono, pow-add, shl_lt}
use native.Mathlib.Nat.{pow-succ'}
use lib.Dec.{nleb→lt}
use mir.Val.{bool_byte}
use Rattle.arithmetic.specs.Inner.{worth_at, Near}

-- a number of s bits times one of t bits has at most s + t bits
pub mul_lt_pow : {a b : ℕ} (s t : ℕ) → a < 2 ^ s → b < 2 ^ t → a * b < 2 ^ (s + t)
mul_lt_pow {a} s t ha hb = lt_of_le_of_lt (mul-le-mul_left a (le_of_lt hb)) (shl_lt s t ha)

-- of two powers, the smaller has the smaller exponent
pow_lt_cancel : {a b : ℕ} → 2 ^ a < 2 ^ b → a < b
pow_lt_cancel h = lt_of_not-le (λ g. not-le_of_lt h (pow_mono g))

-- the square of a number of two digits in the base 2^26
square_split : (a b : ℕ) → (a * 2 ^ 26 + b) * (a * 2 ^ 26 + b) ≡ a * a * 2 ^ 52 + a * b * 2 ^ 27 + b * b
square_split a b = omega arith

-- the products of the two parts of q, as `over` and `settle` compute them
pub record Parts (q a b : ℕ) : Type 0 where
  pub mid : a * b < 2 ^ 53
  pub top : a * a < 2 ^ 54
  pub bottom : b * b < 2 ^ 52
  pub square : q * q ≡ a * a * 2 ^ 52 + a * b * 2 ^ 27 + b * b

pub parts : (q : ℕ) → q < 2 ^ 53 → Parts q (q / 2 ^ 26) (q % 2 ^ 26)
parts q h =
    let a = q / 2 ^ 26 in
    let b = q % 2 ^ 26 in
    let ha : a < 2 ^ 27 = omega arith in
    let hb : b < 2 ^ 26 = omega arith in
    record {
      mid = mul_lt_pow 27 26 ha hb;
      top = mul_lt_pow 27 27 ha ha;
      bottom = mul_lt_pow 26 26 hb hb;
      square = ap (λ (x : ℕ). x * x) (sym (div-add-mod' q (2 ^ 26))) ∙ square_split a b;
    }

-- ---- q * q + q - m * 2^52 as `settle` sums it: each sum modulo 2^64 that turns out small is the sum itself
first_sum : (m x c : ℕ) → m < 2 ^ 54 → x < 2 ^ 54 → (c + m) % 2 ^ 64 ≡ x → (c + 2 ^ 29) % 2 ^ 64 < 2 ^ 30 → (c + 2 ^ 29) % 2 ^ 64 + m ≡ x + 2 ^ 29
first_sum m x c ml xl e h = omega arith

second_sum : (y c d : ℕ) → y < 2 ^ 53 → (c + 2 ^ 29) % 2 ^ 64 < 2 ^ 30 → d ≡ (c * 2 ^ 25 % 2 ^ 64 + y) % 2 ^ 64 → (d + 2 ^ 28) % 2 ^ 64 < 2 ^ 30
    → (d + 2 ^ 28) % 2 ^ 64 + 2 ^ 54 ≡ (c + 2 ^ 29) % 2 ^ 64 * 2 ^ 25 + y + 2 ^ 28
second_sum y c d yl l e h = omega arith

third_sum : (q z d t : ℕ) → q < 2 ^ 53 → z < 2 ^ 52 → (d + 2 ^ 28) % 2 ^ 64 < 2 ^ 30 → t ≡ (d * 2 ^ 27 % 2 ^ 64 + (z + q)) % 2 ^ 64 → t + 6 < 6 * q
    → t + 2 ^ 55 ≡ (d + 2 ^ 28) % 2 ^ 64 * 2 ^ 27 + z + q
third_sum q z d t ql zl l e h = omega arith

total : (m q s x y z e f t : ℕ) → s ≡ x * 2 ^ 52 + y * 2 ^ 27 + z → e + m ≡ x + 2 ^ 29 → f + 2 ^ 54 ≡ e * 2 ^ 25 + y + 2 ^ 28 → t + 2 ^ 55 ≡ f * 2 ^ 27 + z + q → m * 2 ^ 52 + t ≡ s + q
total m q s x y z e f t i j k l = omega arith

pub left_over : (m q c d t : ℕ) → m < 2 ^ 54 → q < 2 ^ 53
    → (c + m) % 2 ^ 64 ≡ q / 2 ^ 26 * (q / 2 ^ 26)
    → (c + 2 ^ 29) % 2 ^ 64 < 2 ^ 30
    → d ≡ (c * 2 ^ 25 % 2 ^ 64 + q / 2 ^ 26 * (q % 2 ^ 26)) % 2 ^ 64
    → (d + 2 ^ 28) % 2 ^ 64 < 2 ^ 30
    → t ≡ (d * 2 ^ 27 % 2 ^ 64 + (q % 2 ^ 26 * (q % 2 ^ 26) + q)) % 2 ^ 64
    → t + 6 < 6 * q
    → m * 2 ^ 52 + t ≡ q * q + q
left_over m q c d t ml ql ce cl de dl te tl =
    let p = parts q ql in
    let x = q / 2 ^ 26 * (q / 2 ^ 26) in
    let y = q / 2 ^ 26 * (q % 2 ^ 26) in
    let z = q % 2 ^ 26 * (q % 2 ^ 26) in
    total m q (q * q) x y z ((c + 2 ^ 29) % 2 ^ 64) ((d + 2 ^ 28) % 2 ^ 64) t
    p.square
    (first_sum m x c ml p.top ce cl)
    (second_sum y c d p.mid cl de dl)
    (third_sum q z d t ql p.bottom dl te tl)

-- ---- `Near`

near_next : (v l : ℕ) → l * l + l < v → v ≤ (l + 1) * (l + 1) + (l + 1) → Near v (l + 1)
near_next v l a b = omega arith

-- h is near where v lies above the products at the number before it, and not above the one at h
pub near_of : (v l h : ℕ) → h ≡ l + 1 → l * l + l < v → v ≤ h * h + h → Near v h
near_of v l h e a b = subst (λ (x : ℕ). Near v x) (sym e) (near_next v l a (subst (λ (x : ℕ). v ≤ x * x + x) e b))

-- the largest number of 53 digits, for the largest m
pub near_top : (m : ℕ) → 0x3f_ffff_ffff_fffa < m → m + 2 ≤ 2 ^ 54 → Near (m * 2 ^ 52) 0x1f_ffff_ffff_ffff
near_top m a b = omega arith

-- ---- a number whose highest digit is at j, shifted to 53 digits; z is the count of the 64 - (j + 1) zeros above it, less 11
pub lifted : (t j l : ℕ) → l + suc j ≡ 64 → 2 ^ j ≤ t → t < 2 ^ suc j → t < 2 ^ 52 → (2 ^ 52 ≤ t * 2 ^ (l - 11)) × (t * 2 ^ (l - 11) < 2 ^ 53) × (l - 11 ≤ 52) × (11 ≤ l)
lifted t j l e a b c =
    let j-lt : j < 52 = pow_lt_cancel (lt_of_le_of_lt a c) in
    let z = l - 11 in
    let s : j + z ≡ 52 = omega arith in (
      subst (λ (x : ℕ). 2 ^ x ≤ t * 2 ^ z) s (le_trans (le_of_eq (pow-add 2 j z)) (mul-le-mul_right (2 ^ z) a)),
      subst (λ (x : ℕ). t * 2 ^ z < 2 ^ x) (ap suc s) (subst (λ (x : ℕ). t * 2 ^ z < 2 ^ x) (suc-add j z) (shl_lt (suc j) z b)),
      omega arith,
      omega arith,
    )

-- ---- m * 2^e as a number times a power of 4
pub paired_even : (m e : ℕ) → e % 2 ≡ 0 → m * 2 ^ e ≡ m * (2 ^ (e / 2) * 2 ^ (e / 2))
paired_even m e h =
    let s : e ≡ e / 2 + e / 2 = omega arith in
    ap (λ (x : ℕ). m * 2 ^ x) s ∙ ap (λ (x : ℕ). m * x) (pow-add 2 (e / 2) (e / 2))

twice : (m p : ℕ) → m * (2 * p) ≡ (m + m) * p
twice m p = omega arith

pub paired_odd : (m e : ℕ) → (e % 2 ≡ 0 → ⊥) → m * 2 ^ e ≡ (m + m) * (2 ^ (e / 2) * 2 ^ (e / 2))
paired_odd m e h =
    let s : e ≡ suc (e / 2 + e / 2) = omega arith in
    ap (λ (x : ℕ). m * 2 ^ x) s ∙ ap (λ (x : ℕ). m * x) (pow-succ' 2 (e / 2 + e / 2)) ∙ twice m (2 ^ (e / 2 + e / 2)) ∙ ap (λ (x : ℕ). (m + m) * x) (pow-add 2 (e / 2) (e / 2))

-- ---- what a pattern is worth
pub worth_subnormal : (f t z : ℕ) → f ≡ 0 → z ≤ 52 → t * 2 ^ z < 2 ^ 53 → worth_at f t * 2 ^ 1022 ≡ (t * 2 ^ z) % 2 ^ 64 * 2 ^ (1022 - z)
worth_subnormal f t z h a b =
    let s : z + (1022 - z) ≡ 1022 = omega arith in
    let c : t * 2 ^ z < 2 ^ 64 = omega arith in
    ap (λ (x : ℕ). worth_at x t * 2 ^ 1022) h
    ∙ ap (λ (x : ℕ). t * 2 ^ x) (sym s)
    ∙ ap (λ (x : ℕ). t * x) (pow-add 2 z (1022 - z))
    ∙ sym (mul_assoc t (2 ^ z) (2 ^ (1022 - z)))
    ∙ ap (λ (x : ℕ). x * 2 ^ (1022 - z)) (sym (mod-eq_of_lt c))

pub worth_normal : (f t : ℕ) → (f ≡ 0 → ⊥) → worth_at f t * 2 ^ 1022 ≡ (t + 2 ^ 52) * 2 ^ (f + 1021)
worth_normal zero t h = absurd (h refl)
worth_normal (suc j) t h =
    let s : j + 1022 ≡ suc j + 1021 = omega arith in
    mul_assoc (2 ^ 52 + t) (2 ^ j) (2 ^ 1022)
    ∙ ap (λ (x : ℕ). (2 ^ 52 + t) * x) (sym (pow-add 2 j 1022) ∙ ap (λ (x : ℕ). 2 ^ x) s)
    ∙ ap (λ (x : ℕ). x * 2 ^ (suc j + 1021)) (add_comm (2 ^ 52) t)

-- ---- the number that `settle` picks for v, by t, which is q * q + q - v: q, or one less, or two less
near_same : (v q t : ℕ) → v + t ≡ q * q + q → t < 2 * q → Near v q
near_same v q t e h = omega arith

near_before : (v l t : ℕ) → v + t ≡ (l + 1) * (l + 1) + (l + 1) → 2 * (l + 1) ≤ t → t + 2 < 4 * (l + 1) → Near v l
near_before v l t e a b = omega arith

near_second : (v l t : ℕ) → v + t ≡ (l + 2) * (l + 2) + (l + 2) → 4 * (l + 2) ≤ t + 2 → t + 6 < 6 * (l + 2) → Near v l
near_second v l t e a b = omega arith

byte_le : (b : Bool) → bool_byte b ≤ 1
byte_le true = lit≤ tt
byte_le false = lit≤ tt

pub lower_le : (q : ℕ) (b : Bool) → 0 < q → bool_byte b ≤ q
lower_le q b h = omega (arith, byte_le b)

pub lower_near : (v q t : ℕ) → 0 < q → v + t ≡ q * q + q → t + 2 < 4 * q → Near v (q - bool_byte (leb (2 * q) t))
lower_near v q t p e h = go (leb (2 * q) t) (leb→le (2 * q) t) (nleb→lt (2 * q) t)
  where
    go : (b : Bool) → (T b → 2 * q ≤ t) → (T (not b) → t < 2 * q) → Near v (q - bool_byte b)
    go true y n =
        let s : q ≡ q - 1 + 1 = omega arith in
        near_before v (q - 1) t (subst (λ (x : ℕ). v + t ≡ x * x + x) s e) (subst (λ (x : ℕ). 2 * x ≤ t) s (y tt)) (subst (λ (x : ℕ). t + 2 < 4 * x) s h)
    go false y n = let s : q ≡ q - 0 = omega arith in subst (λ (x : ℕ). Near v x) s (near_same v q t e (n tt))

pub lower_twice : (v q t : ℕ) → 2 ≤ q → v + t ≡ q * q + q → 4 * q ≤ t + 2 → t + 6 < 6 * q → Near v (q - 2)
lower_twice v q t p e a b =
    let s : q ≡ q - 2 + 2 = omega arith in
    near_second v (q - 2) t (subst (λ (x : ℕ). v + t ≡ x * x + x) s e) (subst (λ (x : ℕ). 4 * x ≤ t + 2) s a) (subst (λ (x : ℕ). t + 6 < 6 * x) s b)
