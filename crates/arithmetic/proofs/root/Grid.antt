-- Of the numbers p * 2^j with a p below 2^53, q * 2^k is the nearest to √(w * 4^k), for the q of 53 digits that is nearest to √w. Assumes nothing.
use Rattle.std.proofs.Common.{◌≡◌, ℕ, suc, ◌+◌, ◌-◌, ◌*◌, ◌^◌, ◌<◌, ◌≤◌, ◌⊎◌, sym, ap, ◌∙◌, subst, inl, inr, le_trans, mul-le-mul_right, mul_assoc, lt_of_mul-lt-mul_right, mul-le-mul_left, mul-lt-mul_of_pos_right, mul-pos, lt_of_not-le, arith, pow_pos, pow_mono, pow-add}
use native.Mathlib.Decide.{dec_le}
use Rattle.arithmetic.specs.Inner.{Near}
use Rattle.arithmetic.specs.Root.{Nearer}

-- p * 2^j is a multiple of u, or is below 2^52 * u
abbrev Grid : ℕ → ℕ → Type 0
Grid b u = ((n : ℕ) × (b ≡ n * u)) ⊎ (b < 2 ^ 52 * u)

grid : (p j k : ℕ) → p < 2 ^ 53 → Grid (p * 2 ^ j) (2 ^ k)
grid p j k h = go (dec_le k j)
  where
    go : Dec (k ≤ j) → Grid (p * 2 ^ j) (2 ^ k)
    go (yes l) =
        let s : j - k + k ≡ j = omega arith in
        inl (p * 2 ^ (j - k), ap (λ (x : ℕ). p * 2 ^ x) (sym s) ∙ ap (λ (x : ℕ). p * x) (pow-add 2 (j - k) k) ∙ sym (mul_assoc p (2 ^ (j - k)) (2 ^ k)))
    go (no f) =
        let l : 2 ^ suc j ≤ 2 ^ k = pow_mono (lt_of_not-le f) in
        let m : p * 2 ^ j < 2 ^ 53 * 2 ^ j = mul-lt-mul_of_pos_right h (pow_pos j) in
        inr (omega arith)

square_le : (a b : ℕ) → a ≤ b → a * a ≤ b * b
square_le a b h = le_trans (mul-le-mul_left a h) (mul-le-mul_right b h)

module _ (w q u : ℕ) (near : Near w q) (least : 2 ^ 104 ≤ w) (q_least : 2 ^ 52 ≤ q) (u-pos : 0 < u) where
  uu_pos : 0 < u * u
  uu_pos = mul-pos u-pos u-pos

  next_above : (b : ℕ) → Grid b u → q * u < b → (q + 1) * u ≤ b
  next_above b (inl (n, e)) h =
      let l : q < n = lt_of_mul-lt-mul_right u (subst (λ (x : ℕ). q * u < x) e h) in
      let m : suc q * u ≤ n * u = mul-le-mul_right u l in
      omega (arith, e)
  next_above b (inr l) h =
      let m : 2 ^ 52 * u ≤ q * u = mul-le-mul_right u q_least in
      omega arith

  above : (b : ℕ) → Grid b u → q * u < b → w * (u * u) * 4 < (q * u + b) * (q * u + b)
  above b g h =
      let n : (q + 1) * u ≤ b = next_above b g h in
      let t : (2 * q + 1) * u ≤ q * u + b = omega arith in
      let s : (2 * q + 1) * u * ((2 * q + 1) * u) ≤ (q * u + b) * (q * u + b) = square_le ((2 * q + 1) * u) (q * u + b) t in
      let r : w * 4 + 1 ≤ (2 * q + 1) * (2 * q + 1) = omega arith in
      let v : (w * 4 + 1) * (u * u) ≤ (2 * q + 1) * (2 * q + 1) * (u * u) = mul-le-mul_right (u * u) r in
      far w (2 * q + 1) u ((q * u + b) * (q * u + b)) uu_pos v s
    where
      far : (w a u c : ℕ) → 0 < u * u → (w * 4 + 1) * (u * u) ≤ a * a * (u * u) → a * u * (a * u) ≤ c → w * (u * u) * 4 < c
      far w a u c p x y = omega arith

-- q is one more than a
module _ (w a u : ℕ) (near : Near w (a + 1)) (least : 2 ^ 104 ≤ w) (q_least : 2 ^ 52 ≤ a + 1) (u-pos : 0 < u) where
  -- b is at most a * u
  far_below : (b : ℕ) → b ≤ a * u → ((a + 1) * u + b) * ((a + 1) * u + b) < w * (u * u) * 4
  far_below b h =
      let t : (a + 1) * u + b ≤ (2 * a + 1) * u = omega arith in
      let s = square_le ((a + 1) * u + b) ((2 * a + 1) * u) t in
      let r : suc ((2 * a + 1) * (2 * a + 1)) ≤ w * 4 = omega arith in
      let v : suc ((2 * a + 1) * (2 * a + 1)) * (u * u) ≤ w * 4 * (u * u) = mul-le-mul_right (u * u) r in
      close w (2 * a + 1) u (((a + 1) * u + b) * ((a + 1) * u + b)) (mul-pos u-pos u-pos) v s
    where
      close : (w c u d : ℕ) → 0 < u * u → suc (c * c) * (u * u) ≤ w * 4 * (u * u) → d ≤ c * u * (c * u) → d < w * (u * u) * 4
      close w c u d p x y = omega arith

  -- b lies between a * u and (a + 1) * u: then it is below 2^52 * u, so a + 1 is 2^52
  between : (b : ℕ) → Grid b u → a * u < b → b < (a + 1) * u → a + 1 ≡ 2 ^ 52
  between b (inl (n, e)) l h =
      let x : a < n = lt_of_mul-lt-mul_right u (subst (λ (z : ℕ). a * u < z) e l) in
      let y : n < a + 1 = lt_of_mul-lt-mul_right u (subst (λ (z : ℕ). z < (a + 1) * u) e h) in
      omega arith
  between b (inr g) l h =
      let x : a * u < 2 ^ 52 * u = omega arith in
      let y : a < 2 ^ 52 = lt_of_mul-lt-mul_right u x in
      omega arith

  near_below : (b : ℕ) → a + 1 ≡ 2 ^ 52 → b < (a + 1) * u → ((a + 1) * u + b) * ((a + 1) * u + b) < w * (u * u) * 4
  near_below b e h =
      let t : suc ((a + 1) * u + b) ≤ 2 * ((a + 1) * u) = omega arith in
      let s = square_le (suc ((a + 1) * u + b)) (2 * ((a + 1) * u)) t in
      let i : (a + 1) * (a + 1) ≤ w = subst (λ (x : ℕ). x * x ≤ w) (sym e) least in
      let v : (a + 1) * (a + 1) * (u * u) ≤ w * (u * u) = mul-le-mul_right (u * u) i in
      close w (a + 1) u ((a + 1) * u + b) v s
    where
      close : (w c u d : ℕ) → c * c * (u * u) ≤ w * (u * u) → suc d * suc d ≤ 2 * (c * u) * (2 * (c * u)) → d * d < w * (u * u) * 4
      close w c u d x y = omega arith

  below : (b : ℕ) → Grid b u → b < (a + 1) * u → ((a + 1) * u + b) * ((a + 1) * u + b) < w * (u * u) * 4
  below b g h = go (dec_le b (a * u))
    where
      go : Dec (b ≤ a * u) → ((a + 1) * u + b) * ((a + 1) * u + b) < w * (u * u) * 4
      go (yes l) = far_below b l
      go (no f) = near_below b (between b g (lt_of_not-le f) h) h

pub nearer : (w q k p j : ℕ) → Near w q → 2 ^ 104 ≤ w → 2 ^ 52 ≤ q → p < 2 ^ 53 → Nearer (w * (2 ^ k * 2 ^ k)) (q * 2 ^ k) (p * 2 ^ j)
nearer w q k p j n l ql pm =
    let e : q - 1 + 1 ≡ q = omega arith in
    record {
      below = subst (λ (x : ℕ). p * 2 ^ j < x * 2 ^ k → (x * 2 ^ k + p * 2 ^ j) * (x * 2 ^ k + p * 2 ^ j) < w * (2 ^ k * 2 ^ k) * 4) e
          (below w (q - 1) (2 ^ k) (subst (λ (x : ℕ). Near w x) (sym e) n) l (omega arith) (pow_pos k) (p * 2 ^ j) (grid p j k pm));
      above = above w q (2 ^ k) n l ql (pow_pos k) (p * 2 ^ j) (grid p j k pm);
    }
