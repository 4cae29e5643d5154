-- A fraction n / d rounded to a double: of the two neighbours w and w + 1, counted in the places that a double keeps, the nearer one is taken, and no double lies between them.
-- Nothing lies halfway: twice the fraction would be an odd number of 54 binary digits over a power of two, and divide n, which has 53 at most. Assumes nothing.
use mathlib.Core.Path.{◌≡◌, sym, ap, ◌∙◌, subst}
use mathlib.Core.Bool.{false, not}
use mathlib.Core.Logic.{◌⊎◌, inl, inr}
use Prim.Native.Nat.{ℕ, zero, suc, ◌+◌, ◌-◌, ◌*◌, ◌/◌, ◌%◌, ◌^◌, ◌≤◌, ◌<◌, compare, Ordering}
use native.Mathlib.Nat.{le_trans, lt_of_le_of_lt, le_of_lt, mul-one, mul_assoc, mul_comm, mul_left_comm, add-mul, suc-mul, mul-pos, mul-le-mul_left, mul-le-mul_right, eq_of_mul-eq-mul_right, pow-succ', two-pow-succ, div-add-mod', mod-lt, div-le_self, div-div-eq-div-mul, le-div_iff_mul-le}
use native.Mathlib.Decide.{dec_lt, dec_le}
use native.Mathlib.Omega.{arith}
use lib.Arith.{lt_of_le-ne}
use lib.Dec.{T, is_le, compare_is_eq, eqb, leb→le, nleb→lt, eqb→eq, eqb_refl, lit<}
use lib.Pow.{pow-add, pow_pos, pow-lt, pow_mono, shl_lt}
use lib.Ieee.{Float, binary64, nearest, size, round}
use lib.Ieee.Digits.{size-le, size_reaches}
use lib.Ieee.Fits.{kept-lt, nearest-le, round_is}
use lib.Ieee.Exact.{HasValue, units_val}
use lib.Ieee.Scale.{normal_of_fraction}
use Rattle.arithmetic.specs.Exact.{apart}
use Rattle.arithmetic.proofs.Units.{Digits, apart_at}

-- ---- what `compare` says
abbrev Cmp : Ordering → ℕ → ℕ → Type 0
Cmp Ordering.lt a b = a < b
Cmp Ordering.eq a b = a ≡ b
Cmp Ordering.gt a b = b < a

cmp : (a b : ℕ) → Cmp (compare a b) a b
cmp a b = go (compare a b) (leb→le a b) (nleb→lt a b) (eqb→eq a b) (λ (e : a ≡ b). subst (λ (x : ℕ). T (eqb a x)) e (eqb_refl a))
  where
    go : (o : Ordering) → (T (is_le o) → a ≤ b) → (T (not (is_le o)) → b < a) → (T (compare_is_eq o) → a ≡ b) → (a ≡ b → T (compare_is_eq o)) → Cmp o a b
    go Ordering.lt h k e n = lt_of_le-ne (h tt) n
    go Ordering.eq h k e n = e tt
    go Ordering.gt h k e n = k tt

-- ---- n is w * U and r over. Of numbers that are w * U at most, or (w + 1) * U at least, the one taken is the nearest
abbrev Outside : ℕ → ℕ → ℕ → Type 0
Outside b low step = (b ≤ low) ⊎ (low + step ≤ b)

below_half : (n W U r b : ℕ) → r * 2 < U → W + r ≡ n → Outside b W U → (b ≡ W) ⊎ (apart n W < apart n b)
below_half n W U r b h e (inl l) =
    elim (dec_lt b W) [
      | yes s ↦ inr (omega arith)
      | no s ↦ inl (omega arith)
    ]
below_half n W U r b h e (inr l) = inr (omega arith)

above_half : (n W U r b : ℕ) → U < r * 2 → r < U → W + r ≡ n → Outside b W U → (b ≡ U + W) ⊎ (apart n (U + W) < apart n b)
above_half n W U r b h k e (inl l) = inr (omega arith)
above_half n W U r b h k e (inr l) =
    elim (dec_lt (U + W) b) [
      | yes s ↦ inr (omega arith)
      | no s ↦ inl (omega arith)
    ]

pub closer : (n U w r : ℕ) (o : Ordering) → Cmp o (r * 2) U → w * U + r ≡ n → (r * 2 ≡ U → ⊥) → r < U → (b : ℕ) → Outside b (w * U) U
    → (b ≡ nearest w o * U) ⊎ (apart n (nearest w o * U) < apart n b)
closer n U w r Ordering.lt c e t l b out = below_half n (w * U) U r b c e out
closer n U w r Ordering.eq c e t l b out = absurd (t c)
closer n U w r Ordering.gt c e t l b out =
    let s : suc w * U ≡ U + w * U = suc-mul w U ∙ (omega arith) in
    subst (λ (z : ℕ). (b ≡ z) ⊎ (apart n z < apart n b)) (sym s) (above_half n (w * U) U r b c l e out)

-- ---- p * 2^i, p of 53 digits, lies outside of w * 2^k to (w + 1) * 2^k, w of 53 digits
finer : (p i w k H : ℕ) → p < H + H → H ≤ w → i < k → p * 2 ^ i ≤ w * 2 ^ k
finer p i w k H a b c =
    let x : p * 2 ^ i ≤ (H + H) * 2 ^ i = mul-le-mul_right (2 ^ i) (le_of_lt a) in
    let y : H * 2 ^ suc i ≤ H * 2 ^ k = mul-le-mul_left H (pow_mono c) in
    let z : H * 2 ^ suc i ≡ H * (2 ^ i + 2 ^ i) = ap (λ (t : ℕ). H * t) (two-pow-succ i) in
    let v : H * 2 ^ k ≤ w * 2 ^ k = mul-le-mul_right (2 ^ k) b in
    omega arith

on_grid : (r w s : ℕ) → Outside (r * s) (w * s) s
on_grid r w s =
    elim (dec_le r w) [
      | yes l ↦ inl (mul-le-mul_right s l)
      | no l ↦ let m : suc w ≤ r = omega arith in let y : suc w * s ≤ r * s = mul-le-mul_right s m in let z : suc w * s ≡ w * s + s = suc-mul w s in inr (omega arith)
    ]

beside : (p i w k H : ℕ) → p < H + H → H ≤ w → Outside (p * 2 ^ i) (w * 2 ^ k) (2 ^ k)
beside p i w k H a b =
    elim (dec_lt i k) [
      | yes lt ↦ inl (finer p i w k H a b lt)
      | no ge ↦ rw (apart_at p k i (omega arith)) (on_grid (p * 2 ^ (i - k)) w (2 ^ k))
    ]

-- all taken d times
times : (v w S d : ℕ) → Outside v (w * S) S → Outside (v * d) (w * (d * S)) (d * S)
times v w S d (inl l) = inl (subst (λ (z : ℕ). v * d ≤ z) (mul_assoc w S d ∙ ap (λ (z : ℕ). w * z) (mul_comm S d)) (mul-le-mul_right d l))
times v w S d (inr l) =
    let a : w * S * d ≡ w * (d * S) = mul_assoc w S d ∙ ap (λ (z : ℕ). w * z) (mul_comm S d) in
    let b : (w * S + S) * d ≡ w * S * d + S * d = add-mul (w * S) S d in
    let c : S * d ≡ d * S = mul_comm S d in
    let m : (w * S + S) * d ≤ v * d = mul-le-mul_right d l in
    inr (omega arith)

-- ---- an odd number that divides n * 2^j divides n
halve : (M a b m X : ℕ) → M * a ≡ 2 * (m * a) + a → M * a ≡ 2 * X → M * (2 * b) ≡ 2 * (M * b) → a ≡ 2 * b → M * a ≡ M * (2 * b) → M * b ≡ X
halve M a b m X p q r s t = omega arith

odd_times : (M a : ℕ) → M % 2 ≡ 1 → M * a ≡ 2 * (M / 2 * a) + a
odd_times M a o =
    let e : M ≡ 2 * (M / 2) + 1 = omega arith in
    ap (λ (z : ℕ). z * a) e ∙ add-mul (2 * (M / 2)) 1 a ∙ ap (λ (z : ℕ). z + 1 * a) (mul_assoc 2 (M / 2) a) ∙ omega arith

factor : (j M n a : ℕ) → M % 2 ≡ 1 → M * a ≡ n * 2 ^ j → 0 < n → M ≤ n
factor zero M n zero o e h = absurd (let z : n * 1 ≡ n = mul-one n in omega arith)
factor zero M n (suc a) o e h =
    let z : n * 1 ≡ n = mul-one n in
    let y : M * 1 ≤ M * suc a = mul-le-mul_left M (omega arith) in
    omega arith
factor (suc j) M n a o e h =
    let x : M * a ≡ 2 * (M / 2 * a) + a = odd_times M a o in
    let y : n * 2 ^ suc j ≡ 2 * (n * 2 ^ j) = ap (λ (z : ℕ). n * z) (pow-succ' 2 j) ∙ mul_left_comm n 2 (2 ^ j) in
    let b = a / 2 in
    let s : a ≡ 2 * b = omega arith in
    let t : M * a ≡ M * (2 * b) = ap (λ (z : ℕ). M * z) s in
    factor j M n b o (halve M a b (M / 2) (n * 2 ^ j) x (e ∙ y) (mul_left_comm M 2 b) s t) h

-- ---- so n * 2^j over U is not halfway between w and w + 1, for a w of as many digits as n has
halfway : (n j w U r : ℕ) → 0 < n → n ≤ w + w → w * U + r ≡ n * 2 ^ j → r * 2 ≡ U → ⊥
halfway n j w U r h l e t =
    let M = w + w + 1 in
    let o : M % 2 ≡ 1 = omega arith in
    let x : M * U ≡ w * U + w * U + 1 * U = add-mul (w + w) 1 U ∙ ap (λ (z : ℕ). z + 1 * U) (add-mul w w U) in
    let y : n * 2 ^ suc j ≡ 2 * (n * 2 ^ j) = ap (λ (z : ℕ). n * z) (pow-succ' 2 j) ∙ mul_left_comm n 2 (2 ^ j) in
    let z : M * U ≡ n * 2 ^ suc j = omega arith in
    let f : M ≤ n = factor (suc j) M n U o z h in
    omega arith

-- ---- n / d as a double, for an n above zero of 53 digits at most, and n / d no less than 2^-1022

-- x is `size` units, and any other number of units that a double may have is farther from n / d, all taken d times
pub record Near (x : Float) (n d : ℕ) : Type 0 where
  pub size : ℕ
  pub is : HasValue x false size (2 ^ 1074)
  pub near : (v : ℕ) → Digits v → (v ≡ size) ⊎ (apart (n * 2 ^ 1074) (size * d) < apart (n * 2 ^ 1074) (v * d))

-- how many binary digits of the whole part are dropped
abbrev dropped : ℕ → ℕ → ℕ
dropped n d = size (n * 2 ^ 1074 / d) - 53

abbrev kept : ℕ → ℕ → ℕ
kept m U = nearest (m / U) (compare (m % U * 2) U)

in_use : (z : ℕ) → 53 ≤ z → 52 + (z - 53) < z
in_use z h = omega arith

-- the whole part in the places kept has 53 digits
enough : (m d : ℕ) → 53 ≤ size (m / d) → 2 ^ 52 ≤ m / (d * 2 ^ (size (m / d) - 53))
enough m d h =
    let k = size (m / d) - 53 in
    let a : 2 ^ 52 * 2 ^ k ≤ m / d = subst (λ (z : ℕ). z ≤ m / d) (pow-add 2 52 k) (size_reaches (m / d) (52 + k) (in_use (size (m / d)) h)) in
    subst (λ (z : ℕ). 2 ^ 52 ≤ z) (div-div-eq-div-mul m d (2 ^ k)) ((le-div_iff_mul-le (pow_pos k)).1 a)

few : (z j : ℕ) → z ≤ 53 + j → z - 53 ≤ j
few z j h = omega arith

dropped_le : (n d L : ℕ) → n < 2 ^ 53 → size (n * 2 ^ L / d) - 53 ≤ L
dropped_le n d L h = few (size (n * 2 ^ L / d)) L (size-le (n * 2 ^ L / d) (53 + L) (lt_of_le_of_lt (div-le_self (n * 2 ^ L) d) (shl_lt 53 L h)))

kept_le : (m d : ℕ) → kept m (d * 2 ^ (size (m / d) - 53)) ≤ 2 ^ 53
kept_le m d =
    let k = size (m / d) - 53 in
    let U = d * 2 ^ k in
    le_trans (nearest-le (m / U) (compare (m % U * 2) U)) (subst (λ (x : ℕ). x < 2 ^ 53) (div-div-eq-div-mul m d (2 ^ k)) (kept-lt 53 (m / d)))

under : (q k L B : ℕ) → q ≤ 2 ^ 53 → k ≤ L → 53 + L < B → q * 2 ^ k < 2 ^ B
under q k L B h l b =
    let a : q * 2 ^ k ≤ 2 ^ 53 * 2 ^ k = mul-le-mul_right (2 ^ k) h in
    let c : 2 ^ 53 * 2 ^ k ≡ 2 ^ (53 + k) = sym (pow-add 2 53 k) in
    let g : 53 + k < B = omega arith in
    lt_of_le_of_lt a (subst (λ (z : ℕ). z < 2 ^ B) (sym c) (pow-lt g))

module _ (n d : ℕ) (some : 0 < n) (small : n < 2 ^ 53) (D : 0 < d) (fine : 2 ^ 52 * d ≤ n * 2 ^ 1074) where
  abbrev m : ℕ
  m = n * 2 ^ 1074

  abbrev k : ℕ
  k = dropped n d

  abbrev U : ℕ
  U = d * 2 ^ k

  abbrev w : ℕ
  w = m / U

  abbrev q : ℕ
  q = kept m U

  U_pos : 0 < U
  U_pos = mul-pos D (pow_pos k)

  w_many : 2 ^ 52 ≤ w
  w_many = enough m d (normal_of_fraction binary64 n d D fine)

  value : HasValue (round binary64 false n d) false (q * 2 ^ k) (2 ^ 1074)
  value = subst (λ (x : Float). HasValue x false (q * 2 ^ k) (2 ^ 1074)) (sym (round_is binary64 false n d)) (units_val binary64 false q k (under q k 1074 2098 (kept_le m d) (dropped_le n d 1074 small) (lit< tt)))

  twice : n ≤ w + w
  twice = two_of n w small w_many
    where
      two_of : (a b : ℕ) → a < 2 ^ 53 → 2 ^ 52 ≤ b → a ≤ b + b
      two_of a b h l = omega arith

  near_at : (v : ℕ) → Digits v → (v ≡ q * 2 ^ k) ⊎ (apart m (q * 2 ^ k * d) < apart m (v * d))
  near_at v g =
      let e : w * U + m % U ≡ m = div-add-mod' m U in
      let out : Outside v (w * 2 ^ k) (2 ^ k) = subst (λ (z : ℕ). Outside z (w * 2 ^ k) (2 ^ k)) (sym g.is) (beside g.digits g.place w k (2 ^ 52) g.small w_many) in
      let r = closer m U w (m % U) (compare (m % U * 2) U) (cmp (m % U * 2) U) e (halfway n 1074 w U (m % U) some twice e) (mod-lt m U_pos) (v * d) (times v w (2 ^ k) d out) in
      let s : q * U ≡ q * 2 ^ k * d = ap (λ (z : ℕ). q * z) (mul_comm d (2 ^ k)) ∙ sym (mul_assoc q (2 ^ k) d) in
      elim r [
        | inl i ↦ inl (eq_of_mul-eq-mul_right d D v (q * 2 ^ k) (i ∙ s))
        | inr l ↦ inr (subst (λ (z : ℕ). apart m z < apart m (v * d)) s l)
      ]

  pub round_near : Near (round binary64 false n d) n d
  round_near = record { size = q * 2 ^ k; is = value; near = near_at }
