-- One test for both of the scan's: where x - y, rounded, is not at most e, x + e, rounded, is not below y, y being a double; and x is not near y.
-- Assumes nothing.
use Prim.Native.Nat.{ℕ, zero, suc, ◌+◌, ◌-◌, ◌*◌, ◌^◌, ◌<◌, ◌≤◌}
use mathlib.Core.Path.{◌≡◌, refl, sym, ap, subst, ◌∙◌}
use mathlib.Core.Logic.{◌⊎◌, inl, inr, ⊎_elim}
use mathlib.Core.Bool.{Bool, true, false, ◌&&◌, cond, true≢false}
use native.Mathlib.Nat.{mul-pos, mul_assoc, mul_right_comm, mul-le-mul_right, add-mul, zero-lt-suc}
use native.Mathlib.Omega.{arith}
use borrow.Author.Tests.{lt-ltb, le-ltb, ltb-true, ltb-false}
use lib.IntN.{ℤ}
use lib.Dec.{T, ltb, leb→le}
use lib.Pow.{pow_pos}
use lib.Ieee.{Float, nan, inf, fin, binary64, prec, emax, low, up, down, odd, units, round, sum, neg, add, sub, lt, le, eq, fits, of_bits}
use lib.Ieee.Fits.{up_pos, down_pos, round_is}
use lib.Ieee.Exact.{HasValue, odd_sign, round_exact}
use lib.Ieee.Order.{transfer, round_mono}
use Rattle.arithmetic.specs.Exact.{units_of}
use Rattle.arithmetic.proofs.Facts.{truth}
use Rattle.arithmetic.proofs.Units.{digits_of_lem, exact, plainly, units_below}
use Rattle.arithmetic.proofs.Order.{lt_at, le_at}
use Rattle.lent.proofs.Laws.{either}
use Rattle.pairing.specs.Pairing.{eps}
use Rattle.pairing.specs.Inner.{Far}
use Rattle.pairing.proofs.Near.{near_is}

-- ---- a fraction rounded with no sign: +∞, or so many units

record Units (w : Float) : Type 0 where
  pub many : ℕ
  pub value : HasValue w false many (2 ^ 1074)

made : (q k : ℕ) → (units binary64 false q k ≡ inf false) ⊎ Units (units binary64 false q k)
unfolding units
made q k = go (ltb (q * 2 ^ k) (2 ^ (low binary64 + suc (emax binary64))))
  where
    go : (b : Bool) → (cond b (odd (suc (prec binary64)) false q k (low binary64)) (inf false) ≡ inf false) ⊎ Units (cond b (odd (suc (prec binary64)) false q k (low binary64)) (inf false))
    go true = inr (record { many = q * 2 ^ k; value = odd_sign (suc (prec binary64)) false q k (low binary64) })
    go false = inl refl

shape : (a c : ℕ) → (round binary64 false a c ≡ inf false) ⊎ Units (round binary64 false a c)
shape a c = subst (λ (w : Float). (w ≡ inf false) ⊎ Units w) (sym (round_is binary64 false a c)) (made _ _)

-- with a sign it is the same, but for the sign
odd_neg : (d q k l : ℕ) → odd d true q k l ≡ neg (odd d false q k l)
unfolding odd neg
odd_neg d zero k l = refl
odd_neg d (suc q) k l = refl

units_neg : (q k : ℕ) → units binary64 true q k ≡ neg (units binary64 false q k)
unfolding units neg
units_neg q k = go (ltb (q * 2 ^ k) (2 ^ (low binary64 + suc (emax binary64))))
  where
    go : (b : Bool) → cond b (odd (suc (prec binary64)) true q k (low binary64)) (inf true) ≡ neg (cond b (odd (suc (prec binary64)) false q k (low binary64)) (inf false))
    go true = odd_neg (suc (prec binary64)) q k (low binary64)
    go false = refl

round_neg : (a c : ℕ) → round binary64 true a c ≡ neg (round binary64 false a c)
round_neg a c = round_is binary64 true a c ∙ units_neg _ _ ∙ ap neg (sym (round_is binary64 false a c))

-- ---- comparisons with such a value

-- with no sign it is not below a number with one
not_minus : (w : Float) (n : ℕ) (d : ℤ) → (w ≡ inf false) ⊎ Units w → lt w (fin true n d) ≡ false
unfolding lt
not_minus nan n d h = refl
not_minus (inf true) n d h = absurd (⊎_elim (λ e. no e) (λ u. u.value) h)
  where
    no : inf true ≡ inf false → ⊥
    no e = let z : true ≡ false = cc in true≢false z
not_minus (inf false) n d h = refl
not_minus (fin true m e) n d h = absurd (⊎_elim (λ q. no q) (λ u. true≢false u.value.0) h)
  where
    no : fin true m e ≡ inf false → ⊥
    no q = let z : ◌≡◌ {A = ℕ} 0 1 = cc in omega arith
not_minus (fin false m e) n d h = refl

-- with a sign it is at most a number above zero
minus_le : (w : Float) (p : ℕ) (k : ℤ) → 0 < p → (w ≡ inf false) ⊎ Units w → le (neg w) (fin false p k) ≡ true
unfolding le lt eq neg
minus_le nan p k P h = absurd (⊎_elim (λ e. no e) (λ u. u.value) h)
  where
    no : nan ≡ inf false → ⊥
    no q = let z : ◌≡◌ {A = ℕ} 0 1 = cc in omega arith
minus_le (inf true) p k P h = absurd (⊎_elim (λ e. no e) (λ u. u.value) h)
  where
    no : inf true ≡ inf false → ⊥
    no e = let z : true ≡ false = cc in true≢false z
minus_le (inf false) p k P h = refl
minus_le (fin true m e) p k P h = absurd (⊎_elim (λ q. no q) (λ u. true≢false u.value.0) h)
  where
    no : fin true m e ≡ inf false → ⊥
    no q = let z : ◌≡◌ {A = ℕ} 0 1 = cc in omega arith
minus_le (fin false m e) p k P h =
    let b : 0 < p * up k * down e = mul-pos (mul-pos P (up_pos k)) (down_pos e) in
    rw (lt-ltb 0 (m * up e * down k + p * up k * down e) (omega arith)) refl

no_infinity : (r : Float) (u : ℕ) → HasValue r false u (2 ^ 1074) → T (le (inf false) r) → ⊥
unfolding le lt eq
no_infinity nan u v t = v
no_infinity (inf s) u v t = v
no_infinity (fin s m e) u v t = t

turned : (w : Float) (u n : ℕ) (d : ℤ) → HasValue w false u (2 ^ 1074) → lt (neg w) (fin true n d) ≡ lt (fin false n d) w
unfolding lt neg
turned nan u n d v = absurd v
turned (inf s) u n d v = absurd v
turned (fin true m e) u n d v = absurd (true≢false v.0)
turned (fin false m e) u n d v = refl

-- ---- a double rounds to itself

module _ (n : ℕ) (d : ℤ) (double : T (fits binary64 (fin false n d))) where
  abbrev y : Float
  y = fin false n d

  own : HasValue y false (units_of y) (2 ^ 1074)
  own = exact y double tt

  same : HasValue (round binary64 false (units_of y) (2 ^ 1074)) false (units_of y) (2 ^ 1074)
  same =
      let g = digits_of_lem y double in
      let b : units_of y < 2 ^ 2098 = units_below (plainly y (units_of y) (2 ^ 1074) double own) in
      round_exact binary64 false (units_of y) (2 ^ 1074) g.digits g.place (pow_pos 1074) g.small
      (subst (λ (u : ℕ). u < 2 ^ 2098) g.is b) (ap (λ (u : ℕ). u * 2 ^ 1074) g.is)

  -- what is at least y is not below it when it is rounded
  reach : (a c : ℕ) → 0 < c → n * up d * c ≤ a * down d → lt (round binary64 false a c) y ≡ false
  reach a c C h =
      let q : units_of y * c ≤ a * 2 ^ 1074 = transfer (units_of y) a (2 ^ 1074) c (n * up d) a (down d) c (down_pos d) C (sym own.1) refl h in
      let m = round_mono binary64 (units_of y) (2 ^ 1074) a c (pow_pos 1074) C q in
      ⊎_elim
      (λ e. rw e (unfold lt in refl))
      (λ u.
      let l : units_of y ≤ u.many = leb→le _ _ (subst T (le_at _ _ (units_of y) u.many (2 ^ 1074) (pow_pos 1074) same u.value) m) in
      lt_at _ _ u.many (units_of y) (2 ^ 1074) (pow_pos 1074) u.value own ∙ le-ltb u.many (units_of y) l)
      (shape a c)

  -- what is at most y in size is not below -y when it is rounded with a sign
  reach_minus : (a c : ℕ) → 0 < c → a * down d ≤ n * up d * c → lt (round binary64 true a c) (fin true n d) ≡ false
  reach_minus a c C h =
      let q : a * 2 ^ 1074 ≤ units_of y * c = transfer a (units_of y) c (2 ^ 1074) a (n * up d) c (down d) C (down_pos d) refl (sym own.1) h in
      let m = round_mono binary64 a c (units_of y) (2 ^ 1074) C (pow_pos 1074) q in
      rw (round_neg a c)
      (⊎_elim
      (λ e. absurd (no_infinity (round binary64 false (units_of y) (2 ^ 1074)) (units_of y) same (subst (λ (w : Float). T (le w (round binary64 false (units_of y) (2 ^ 1074)))) e m)))
      (λ u.
      let l : u.many ≤ units_of y = leb→le _ _ (subst T (le_at _ _ u.many (units_of y) (2 ^ 1074) (pow_pos 1074) u.value same) m) in
      turned (round binary64 false a c) u.many n d u.value ∙ lt_at y _ (units_of y) u.many (2 ^ 1074) (pow_pos 1074) own u.value ∙ le-ltb (units_of y) u.many l)
      (shape a c))

-- ---- the test

lt_nan : (v : Float) → lt v nan ≡ false
unfolding lt
lt_nan nan = refl
lt_nan (inf s) = refl
lt_nan (fin s m e) = refl

lt_least : (v : Float) → lt v (inf true) ≡ false
unfolding lt
lt_least nan = refl
lt_least (inf true) = refl
lt_least (inf false) = refl
lt_least (fin s m e) = refl

unsigned : (s t : Bool) (n : ℕ) (d : ℤ) → T (fits binary64 (fin s n d)) → T (fits binary64 (fin t n d))
unfolding fits
unsigned s t zero d h = h
unsigned s t (suc n) d h = h

both_plus : (m n p : ℕ) (e d k : ℤ) → n * up d * down e ≤ m * up e * down d → n * up d * (down e * down k) ≤ (m * up e * down k + p * up k * down e) * down d
both_plus m n p e d k h =
    let l : n * up d * down e * down k ≤ m * up e * down d * down k = mul-le-mul_right (down k) h in
    let a : n * up d * (down e * down k) ≡ n * up d * down e * down k = sym (mul_assoc (n * up d) (down e) (down k)) in
    let b : (m * up e * down k + p * up k * down e) * down d ≡ m * up e * down k * down d + p * up k * down e * down d = add-mul (m * up e * down k) (p * up k * down e) (down d) in
    let c : m * up e * down k * down d ≡ m * up e * down d * down k = mul_right_comm (m * up e) (down k) (down d) in
    omega arith

both_minus : (m n q : ℕ) (e d k : ℤ) → m * up e * down d ≤ n * up d * down e → (m * up e * down k - q) * down d ≤ n * up d * (down e * down k)
both_minus m n q e d k h =
    let l : m * up e * down d * down k ≤ n * up d * down e * down k = mul-le-mul_right (down k) h in
    let a : n * up d * (down e * down k) ≡ n * up d * down e * down k = sym (mul_assoc (n * up d) (down e) (down k)) in
    let z : m * up e * down k - q ≤ m * up e * down k = omega arith in
    let b : (m * up e * down k - q) * down d ≤ m * up e * down k * down d = mul-le-mul_right (down d) z in
    let c : m * up e * down k * down d ≡ m * up e * down d * down k = mul_right_comm (m * up e) (down k) (down d) in
    omega arith

module _ (p : ℕ) (k : ℤ) (P : 0 < p) where
  abbrev E : Float
  E = fin false p k

  minus_in : (a c : ℕ) → le (round binary64 true a c) E ≡ false → ⊥
  minus_in a c h = true≢false (sym (rw (round_neg a c) (minus_le (round binary64 false a c) p k P (shape a c))) ∙ h)

  numbers : (s : Bool) (m : ℕ) (e : ℤ) (t : Bool) (n : ℕ) (d : ℤ) → T (fits binary64 (fin t n d))
      → le (sub binary64 (fin s m e) (fin t n d)) E ≡ false → lt (add binary64 (fin s m e) E) (fin t n d) ≡ false
  unfolding sub add neg sum
  numbers false m e false n d f h =
      let A = m * up e * down d in
      let B = n * up d * down e in
      ⊎_elim
      (λ q. absurd (minus_in (B - A) (down e * down d) (rw q at h)))
      (λ q. reach n d f (m * up e * down k + p * up k * down e) (down e * down k) (mul-pos (down_pos e) (down_pos k)) (both_plus m n p e d k (ltb-false A B q)))
      (either (ltb A B))
  numbers false m e true n d f h = not_minus _ n d (shape (m * up e * down k + p * up k * down e) (down e * down k))
  numbers true m e false n d f h = absurd (minus_in (m * up e * down d + n * up d * down e) (down e * down d) h)
  numbers true m e true n d f h =
      let A = m * up e * down d in
      let B = n * up d * down e in
      let S = m * up e * down k in
      let Q = p * up k * down e in
      ⊎_elim
      (λ q.
      let l : B < A = ltb-true B A q in
      let h' = rw (le-ltb A B (omega arith), q) at h in
      absurd (minus_in (A - B) (down e * down d) h'))
      (λ q.
      ⊎_elim
      (λ r. rw r (not_minus _ n d (shape (Q - S) (down e * down k))))
      (λ r.
      rw r
      (⊎_elim
      (λ z. rw z (reach_minus n d (unsigned true false n d f) (S - Q) (down e * down k) (mul-pos (down_pos e) (down_pos k)) (both_minus m n Q e d k (ltb-false B A q))))
      (λ z. rw z (not_minus _ n d (shape (S - Q) (down e * down k))))
      (either (ltb Q S))))
      (either (ltb S Q)))
      (either (ltb B A))

  over : (x y : Float) → T (fits binary64 y) → le (sub binary64 x y) E ≡ false → lt (add binary64 x E) y ≡ false
  unfolding sub add neg le lt eq
  over nan y f h = refl
  over (inf false) nan f h = refl
  over (inf false) (inf t) f h = refl
  over (inf false) (fin t n d) f h = refl
  over (inf true) nan f h = refl
  over (inf true) (inf true) f h = refl
  over (inf true) (inf false) f h = absurd (true≢false h)
  over (inf true) (fin t n d) f h = absurd (true≢false h)
  over (fin s m e) nan f h = lt_nan (add binary64 (fin s m e) E)
  over (fin s m e) (inf true) f h = lt_least (add binary64 (fin s m e) E)
  over (fin s m e) (inf false) f h = absurd (true≢false h)
  over (fin s m e) (fin t n d) f h = numbers s m e t n d f h

over_eps : (x y : Float) → T (fits binary64 y) → le (sub binary64 x y) eps ≡ false → lt (add binary64 x eps) y ≡ false
unfolding of_bits
over_eps x y f h = over _ _ (zero-lt-suc _) x y f h

pub far : (x y : Float) → fits binary64 y ≡ true → le (sub binary64 x y) eps ≡ false → Far x y
far x y f h = record { over = over_eps x y (truth f) h; apart = near_is x y ∙ rw h (and_no (le (neg eps) (sub binary64 x y))) }
  where
    and_no : (b : Bool) → b && false ≡ false
    and_no true = refl
    and_no false = refl
