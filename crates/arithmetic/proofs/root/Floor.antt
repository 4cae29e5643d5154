-- `isqrt` is the root cut to a whole number, half of the root of 4 * v rounded up is the whole number nearest to √v, and there is one such number. Assumes nothing.
use Rattle.std.proofs.Common.{◌≡◌, ℕ, zero, suc, ◌+◌, ◌*◌, ◌/◌, ◌%◌, ◌^◌, ◌<◌, ◌≤◌, Bool, true, false, cond, not, T, leb, sym, refl, subst, mul-le-mul_right, le_antisymm, mul-le-mul_left, lt_of_not-le, arith, leb→le}
use native.Mathlib.Nat.{pow-succ'}
use native.Mathlib.Decide.{dec_le}
use lib.Dec.{nleb→lt}
use Rattle.arithmetic.specs.Inner.{Near}
use Rattle.arithmetic.specs.Root.{isqrt, isqrt_step}

-- s is √v, cut to a whole number
pub record Floor (v s : ℕ) : Type 0 where
  pub low : s * s ≤ v
  pub high : v < (s + 1) * (s + 1)

floor_grow : (v s : ℕ) → s * s ≤ v → v < (s + 2) * (s + 2) → Floor v (isqrt_step v s)
floor_grow v s l h = go (leb ((s + 1) * (s + 1)) v) (leb→le ((s + 1) * (s + 1)) v) (nleb→lt ((s + 1) * (s + 1)) v)
  where
    go : (b : Bool) → (T b → (s + 1) * (s + 1) ≤ v) → (T (not b) → v < (s + 1) * (s + 1)) → Floor v (cond b (s + 1) s)
    go true y n = let k = y tt in omega arith
    go false y n = let k = n tt in omega arith

floor_four : (v r : ℕ) → Floor (v / 4) r → Floor v (isqrt_step v (2 * r))
floor_four v r f = floor_grow v (2 * r) (omega arith) (omega arith)

quarter : (v p n : ℕ) → n ≡ 4 * p → v < n → v / 4 < p
quarter v p n e h = omega arith

pub isqrt_floor : (d v : ℕ) → v < 4 ^ d → Floor v (isqrt d v)
unfolding isqrt
isqrt_floor zero v h = omega arith
isqrt_floor (suc d) v h = floor_four v (isqrt d (v / 4)) (isqrt_floor d (v / 4) (quarter v (4 ^ d) (4 ^ suc d) (pow-succ' 4 d) h))

-- ---- from the root of v * 4, cut, to the nearest number to √v
half_even : (v a : ℕ) → 0 < v → Floor (v * 4) (2 * a) → Near v a
half_even v zero p f = omega arith
half_even v (suc a) p f = omega arith

half_odd : (v a : ℕ) → Floor (v * 4) (2 * a + 1) → Near v (a + 1)
half_odd v a f = omega arith

pub near_half : (v w : ℕ) → 0 < v → Floor (v * 4) w → Near v ((w + 1) / 2)
near_half v w p f = go (w % 2) refl
  where
    go : (r : ℕ) → w % 2 ≡ r → Near v ((w + 1) / 2)
    go zero e =
        let d : 2 * (w / 2) ≡ w = omega arith in
        let k : w / 2 ≡ (w + 1) / 2 = omega arith in
        subst (λ (x : ℕ). Near v x) k (half_even v (w / 2) p (subst (λ (x : ℕ). Floor (v * 4) x) (sym d) f))
    go (suc r) e =
        let d : 2 * (w / 2) + 1 ≡ w = omega arith in
        let k : w / 2 + 1 ≡ (w + 1) / 2 = omega arith in
        subst (λ (x : ℕ). Near v x) k (half_odd v (w / 2) (subst (λ (x : ℕ). Floor (v * 4) x) (sym d) f))

-- ---- there is one
not_above : (v q p : ℕ) → Near v q → Near v p → p ≤ q
not_above v q p a b = go (dec_le p q)
  where
    no_way : suc q * p ≤ p * p → q * suc q ≤ q * p → ⊥
    no_way x y = omega arith

    go : Dec (p ≤ q) → p ≤ q
    go (yes h) = h
    go (no f) = let h : suc q ≤ p = lt_of_not-le f in absurd (no_way (mul-le-mul_right p h) (mul-le-mul_left q h))

pub near_unique : (v q p : ℕ) → Near v q → Near v p → q ≡ p
near_unique v q p a b = le_antisymm (not_above v p q b a) (not_above v q p a b)
