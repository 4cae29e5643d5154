-- What `root` is at a double of a units, from any m and k with a * 2^1022 = m * 4^k and m between 2^52 and 2^54: it is q * 2^k units, for the q that is nearest to √(m * 2^52). Assumes nothing.
use Rattle.std.proofs.Common.{◌≡◌, ℕ, zero, suc, ◌+◌, ◌-◌, ◌*◌, ◌/◌, ◌^◌, ◌<◌, ◌≤◌, true, false, ℤ, sym, ap, ◌∙◌, subst, true≢false, le_trans, le_of_eq, lt_of_lt_of_le, lt_irrefl, mul-le-mul_right, zero-lt-suc, mul_assoc, mul-pos, lt_of_not-le, zero-mul, mul_right_comm, mul-div_cancel, arith, pow_pos, pow_mono, pow-add, shl_lt}
use lib.Ieee.{Float, inf, nan, fin, up, down, size, odd}
use lib.Ieee.Digits.{size-lt, size-le}
use lib.Ieee.Fits.{down_pos}
use lib.Ieee.Exact.{HasValue}
use Rattle.arithmetic.specs.Inner.{Near}
use Rattle.arithmetic.specs.Root.{isqrt, dropped, kept, root}
use Rattle.arithmetic.proofs.Units.{units_are}
use Rattle.arithmetic.proofs.root.Floor.{isqrt_floor, near_half, near_unique}

-- ---- v = w * 4^k
module _ (v w k : ℕ) (is : v ≡ w * (2 ^ k * 2 ^ k)) (least : 2 ^ 104 ≤ w) (most : w < 2 ^ 106) where
  is_shift : v ≡ w * 2 ^ (k + k)
  is_shift = is ∙ ap (λ (x : ℕ). w * x) (sym (pow-add 2 k k))

  size_most : size v ≤ 106 + (k + k)
  size_most = size-le v (106 + (k + k)) (subst (λ (x : ℕ). x < 2 ^ (106 + (k + k))) (sym is_shift) (shl_lt 106 (k + k) most))

  size_least : 104 + (k + k) < size v
  size_least = lt_of_not-le (λ h. lt_irrefl v
      (lt_of_lt_of_le (size-lt v)
      (le_trans (pow_mono h)
      (le_trans (le_of_eq (pow-add 2 104 (k + k)))
      (le_trans (mul-le-mul_right (2 ^ (k + k)) least) (le_of_eq (sym is_shift)))))))

  count : (s : ℕ) → s ≤ 106 + (k + k) → 104 + (k + k) < s → (s + 1) / 2 - 53 ≡ k
  count s a b = omega arith

  pub dropped_is : dropped v ≡ k
  dropped_is = count (size v) size_most size_least

  cut : v * 4 / (2 ^ k * 2 ^ k) ≡ w * 4
  cut =
      ap (λ (x : ℕ). x * 4 / (2 ^ k * 2 ^ k)) is
      ∙ ap (λ (x : ℕ). x / (2 ^ k * 2 ^ k)) (mul_right_comm w (2 ^ k * 2 ^ k) 4)
      ∙ mul-div_cancel (w * 4) (mul-pos (pow_pos k) (pow_pos k))

  w_pos : 0 < w
  w_pos = omega arith

  four_in : w * 4 < 4 ^ 54
  four_in = omega arith

  pub kept_near : Near w (kept v k)
  kept_near =
      subst (λ (x : ℕ). Near w ((isqrt 54 x + 1) / 2)) (sym cut)
      (near_half w (isqrt 54 (w * 4)) w_pos (isqrt_floor 54 (w * 4) four_in))

-- ---- `root` at a value of a units
no_units : (e : ℤ) (a : ℕ) → 0 < a → zero * up e * 2 ^ 1074 ≡ a * down e → ⊥
no_units e a p h = lt_irrefl 0 (subst (λ (x : ℕ). 0 < x) (sym h ∙ ap (λ (y : ℕ). y * 2 ^ 1074) (zero-mul (up e)) ∙ zero-mul (2 ^ 1074)) (mul-pos p (down_pos e)))

abbrev rooted : ℕ → Float
rooted v = odd 53 false (kept v (dropped v)) (dropped v) 1074

root_units : (x : Float) (a : ℕ) → HasValue x false a (2 ^ 1074) → 0 < a → root x ≡ rooted (a * 2 ^ 1074)
unfolding root
root_units nan a h p = elim h [ ]
root_units (inf _) a h p = elim h [ ]
root_units (fin false zero e) a h p = absurd (no_units e a p h.1)
root_units (fin false (suc m) e) a h p = ap (λ (n : ℕ). rooted (n * 2 ^ 1074)) (units_are (fin false (suc m) e) false a h)
root_units (fin true zero e) a h p = absurd (no_units e a p h.1)
root_units (fin true (suc m) e) a h p = absurd (true≢false h.0)

a_pos : (a m k : ℕ) → a * 2 ^ 1022 ≡ m * (2 ^ k * 2 ^ k) → 2 ^ 52 ≤ m → 0 < a
a_pos zero m k e l = absurd (lt_irrefl 0 (subst (λ (x : ℕ). 0 < x) (sym e ∙ zero-mul (2 ^ 1022)) (mul-pos (lt_of_lt_of_le (pow_pos 52) l) (mul-pos (pow_pos k) (pow_pos k)))))
a_pos (suc a) m k e l = zero-lt-suc a

pub root_at : (x : Float) (a m k q : ℕ) → HasValue x false a (2 ^ 1074) → a * 2 ^ 1022 ≡ m * (2 ^ k * 2 ^ k) → 2 ^ 52 ≤ m → m < 2 ^ 54 → Near (m * 2 ^ 52) q → root x ≡ odd 53 false q k 1074
root_at x a m k q h e l g n =
    let v = a * 2 ^ 1074 in
    let w = m * 2 ^ 52 in
    let is : v ≡ w * (2 ^ k * 2 ^ k) = sym (mul_assoc a (2 ^ 1022) (2 ^ 52)) ∙ ap (λ (x : ℕ). x * 2 ^ 52) e ∙ mul_right_comm m (2 ^ k * 2 ^ k) (2 ^ 52) in
    let wl : 2 ^ 104 ≤ w = omega arith in
    let wm : w < 2 ^ 106 = omega arith in
    root_units x a h (a_pos a m k e l)
    ∙ ap (λ (j : ℕ). odd 53 false (kept v j) j 1074) (dropped_is v w k is wl wm)
    ∙ ap (λ (r : ℕ). odd 53 false r k 1074) (near_unique w (kept v k) q (kept_near v w k is wl wm) n)
