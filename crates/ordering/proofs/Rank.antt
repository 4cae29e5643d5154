-- A double's place among all doubles, as a whole number: `before` is the order of these numbers, and no two doubles have the same. Assumes nothing.
use Rattle.std.proofs.Common.{◌≡◌, ℕ, zero, suc, ◌+◌, ◌-◌, ◌*◌, ◌/◌, ◌%◌, ◌^◌, ◌<◌, ◌≤◌, Bool, true, false, cond, ◌&&◌, ◌||◌, eqb, ltb, leb, ℤ, pos, negsuc, sym, refl, ap, ◌∙◌, subst, zero-le, mul-le-mul_right, mul_assoc, lt_of_mul-lt-mul_right, mul-lt-mul_of_pos_right, mul-pos, lt_of_not-le, zero-mul, mul-one, mul_right_comm, le_of_mul-le-mul_right, mul-div_cancel, arith, lit<, lit≤, ltb→lt, leb→le, pow_pos, pow-add, ltb-false, ltb-true, le-ltb, lt-ltb}
use native.Mathlib.Nat.{zero-div}
use native.Mathlib.Decide.{dec_le, dec_lt}
use lib.Pow.{pow-lt}
use lib.Ieee.{Float, nan, inf, fin, binary64, fits, to_bits, of_bits, lt, eq, is_nan, up, down, size}
use lib.Ieee.Fits.{down_pos, and_l, and_r}
use lib.Ieee.Bits.{of_bits-to_bits}
use Rattle.ordering.specs.Order.{has_minus, before}
use Rattle.ordering.specs.Meaning.{Double}

-- a finite double's size, in units of 2 ^ -1074
abbrev pub units_at : ℕ → ℤ → ℕ
units_at m e = m * up e * 2 ^ 1074 / down e

-- above every finite double's units
abbrev pub bound : ℕ
bound = 2 ^ 2098

unfoldable pub rank : Float → ℕ
rank nan = suc (suc (bound + bound))
rank (inf true) = 0
rank (inf false) = suc (bound + bound)
rank (fin true m e) = bound - units_at m e
rank (fin false m e) = suc (bound + units_at m e)

-- ---- the units are exact, and below the bound

record Whole (m : ℕ) (e : ℤ) : Type 0 where
  exact : units_at m e * down e ≡ m * up e * 2 ^ 1074
  small : units_at m e < bound

divides : (e : ℤ) → down e ≤ 2 ^ 1074 → (d : ℕ) × (2 ^ 1074 ≡ d * down e)
divides (pos k) h = (2 ^ 1074, sym (mul-one (2 ^ 1074)))
divides (negsuc k) h = go (dec_le (suc k) 1074)
  where
    go : Dec (suc k ≤ 1074) → (d : ℕ) × (2 ^ 1074 ≡ d * 2 ^ suc k)
    go (yes l) =
        let s : 1074 - suc k + suc k ≡ 1074 = omega arith in
        (2 ^ (1074 - suc k), ap (λ (n : ℕ). 2 ^ n) (sym s) ∙ pow-add 2 (1074 - suc k) (suc k))
    go (no f) = absurd (clash (2 ^ 1074) (2 ^ suc k) (pow-lt (lt_of_not-le f)) h)
      where
        clash : (a b : ℕ) → a < b → b ≤ a → ⊥
        clash a b p q = omega arith

exact_at : (p d : ℕ) (e : ℤ) → 2 ^ 1074 ≡ d * down e → p * 2 ^ 1074 / down e * down e ≡ p * 2 ^ 1074
exact_at p d e h =
    let q : p * 2 ^ 1074 ≡ p * d * down e = ap (λ (n : ℕ). p * n) h ∙ sym (mul_assoc p d (down e)) in
    ap (λ (n : ℕ). n / down e * down e) q ∙ ap (λ (n : ℕ). n * down e) (mul-div_cancel (p * d) (down_pos e)) ∙ sym q

whole_suc : (m : ℕ) (e : ℤ) → down e ≤ 2 ^ 1074 → m * up e < 2 ^ 1024 * down e → Whole m e
whole_suc m e h k =
    let d = divides e h in
    let x = exact_at (m * up e) d.0 e d.1 in
    let l : m * up e * 2 ^ 1074 < 2 ^ 1024 * down e * 2 ^ 1074 = mul-lt-mul_of_pos_right k (pow_pos 1074) in
    record {
      exact = x;
      small = lt_of_mul-lt-mul_right (down e) (subst (λ (n : ℕ). n < bound * down e) (sym x) (subst (λ (n : ℕ). m * up e * 2 ^ 1074 < n) (mul_right_comm (2 ^ 1024) (down e) (2 ^ 1074)) l));
    }

zero_units : (e : ℤ) → units_at 0 e ≡ 0
zero_units e = ap (λ (n : ℕ). n * 2 ^ 1074 / down e) (zero-mul (up e)) ∙ ap (λ (n : ℕ). n / down e) (zero-mul (2 ^ 1074)) ∙ zero-div (down e)

whole : (s : Bool) (m : ℕ) (e : ℤ) → Double (fin s m e) → Whole m e
unfolding fits
whole s zero e f = record {
  exact = ap (λ (n : ℕ). n * down e) (zero_units e) ∙ zero-mul (down e) ∙ sym (zero-mul (2 ^ 1074)) ∙ ap (λ (n : ℕ). n * 2 ^ 1074) (sym (zero-mul (up e)));
  small = subst (λ (n : ℕ). n < bound) (sym (zero_units e)) (lit< tt);
}
whole s (suc m) e f =
    let A = eqb (suc m % 2) 1 in
    let B = ltb (suc m) (2 ^ 53) in
    let C = leb (down e) (2 ^ 1074) in
    let D = ltb (suc m * up e) (2 ^ 1024 * down e) in
    whole_suc (suc m) e (leb→le (down e) (2 ^ 1074) (and_r (A && B) C (and_l (A && B && C) D f))) (ltb→lt (suc m * up e) (2 ^ 1024 * down e) (and_r (A && B && C) D f))

pub no_lt : {u v : ℕ} → (u < v → ⊥) → v ≤ u
no_lt {u} {v} f = go (dec_le v u)
  where
    go : Dec (v ≤ u) → v ≤ u
    go (yes l) = l
    go (no g) = absurd (f (lt_of_not-le g))

-- ---- the order of two finite doubles is that of their units

pub same_ltb : (a b u v p q : ℕ) → 0 < p → 0 < q → a * p ≡ u * q → b * p ≡ v * q → ltb a b ≡ ltb u v
same_ltb a b u v p q P Q x y = go (dec_lt u v)
  where
    go : Dec (u < v) → ltb a b ≡ ltb u v
    go (yes l) =
        let h : a * p < b * p = subst (λ (n : ℕ). n < b * p) (sym x) (subst (λ (n : ℕ). u * q < n) (sym y) (mul-lt-mul_of_pos_right l Q)) in
        lt-ltb a b (lt_of_mul-lt-mul_right p h) ∙ sym (lt-ltb u v l)
    go (no f) =
        let l : v ≤ u = no_lt f in
        let h : b * p ≤ a * p = subst (λ (n : ℕ). b * p ≤ n) (sym x) (subst (λ (n : ℕ). n ≤ u * q) (sym y) (mul-le-mul_right q l)) in
        le-ltb a b (le_of_mul-le-mul_right h P) ∙ sym (le-ltb u v l)

cross : (a d e u : ℕ) → u * e ≡ a * 2 ^ 1074 → a * d * 2 ^ 1074 ≡ u * (e * d)
cross a d e u h = mul_right_comm a d (2 ^ 1074) ∙ ap (λ (n : ℕ). n * d) (sym h) ∙ mul_assoc u e d

units_ltb : (m : ℕ) (e : ℤ) (n : ℕ) (d : ℤ) → Whole m e → Whole n d → ltb (m * up e * down d) (n * up d * down e) ≡ ltb (units_at m e) (units_at n d)
units_ltb m e n d x y =
    same_ltb (m * up e * down d) (n * up d * down e) (units_at m e) (units_at n d) (2 ^ 1074) (down e * down d) (pow_pos 1074) (mul-pos (down_pos e) (down_pos d))
    (cross (m * up e) (down d) (down e) (units_at m e) x.exact)
    (cross (n * up d) (down e) (down d) (units_at n d) y.exact ∙ sym (mul_assoc (units_at n d) (down d) (down e)) ∙ mul_right_comm (units_at n d) (down d) (down e) ∙ mul_assoc (units_at n d) (down e) (down d))

-- ---- the same with the bound as any number

module _ (b : ℕ) where
  up_ltb : (u v : ℕ) → ltb u v ≡ ltb (suc (b + u)) (suc (b + v))
  up_ltb u v = go (dec_lt u v)
    where
      go : Dec (u < v) → ltb u v ≡ ltb (suc (b + u)) (suc (b + v))
      go (yes l) = lt-ltb u v l ∙ sym (lt-ltb (suc (b + u)) (suc (b + v)) (omega arith))
      go (no f) = let l : v ≤ u = no_lt f in le-ltb u v l ∙ sym (le-ltb (suc (b + u)) (suc (b + v)) (omega arith))

  down_ltb : (u v : ℕ) → u < b → v < b → ltb v u ≡ ltb (b - u) (b - v)
  down_ltb u v x y = go (dec_lt v u)
    where
      go : Dec (v < u) → ltb v u ≡ ltb (b - u) (b - v)
      go (yes l) = lt-ltb v u l ∙ sym (lt-ltb (b - u) (b - v) (omega arith))
      go (no f) = let l : u ≤ v = no_lt f in le-ltb v u l ∙ sym (le-ltb (b - u) (b - v) (omega arith))

  across : (u v : ℕ) → true ≡ ltb (b - u) (suc (b + v))
  across u v = sym (lt-ltb (b - u) (suc (b + v)) (omega arith))

  back_across : (u v : ℕ) → false ≡ ltb (suc (b + u)) (b - v)
  back_across u v = sym (le-ltb (suc (b + u)) (b - v) (omega arith))

  above_low : (u : ℕ) → u < b → 0 < b - u
  above_low u h = omega arith

  above_high : (u : ℕ) → 0 < suc (b + u)
  above_high u = omega arith

  low_under : (u : ℕ) → b - u < suc (b + b)
  low_under u = omega arith

  high_under : (u : ℕ) → u < b → suc (b + u) < suc (b + b)
  high_under u h = omega arith

  same_low : (u v : ℕ) → u < b → v < b → b - u ≡ b - v → u ≡ v
  same_low u v x y e = omega arith

  same_high : (u v : ℕ) → suc (b + u) ≡ suc (b + v) → u ≡ v
  same_high u v e = omega arith

  never : (u v : ℕ) → b - u ≡ suc (b + v) → ⊥
  never u v e = omega arith

-- a finite double is above -infinity, and below +infinity
above : (s : Bool) (m : ℕ) (e : ℤ) → Double (fin s m e) → 0 < rank (fin s m e)
unfolding rank
above true m e f = above_low bound (units_at m e) (whole true m e f).small
above false m e f = above_high bound (units_at m e)

under : (s : Bool) (m : ℕ) (e : ℤ) → Double (fin s m e) → rank (fin s m e) < suc (bound + bound)
unfolding rank
under true m e f = low_under bound (units_at m e)
under false m e f = high_under bound (units_at m e) (whole false m e f).small

step_lt : (a b : ℕ) → a < b → a < suc b
step_lt a b h = omega arith

lt_le : (a b : ℕ) → a < b → a ≤ b
lt_le a b h = omega arith

-- every double but a NaN is below a NaN
below_nan : (x : Float) → Double x → is_nan x ≡ false → rank x < rank nan
unfolding rank is_nan
below_nan nan f n = absurd (let z : ◌≡◌ {A = ℕ} 0 1 = cc in omega arith)
below_nan (inf true) f n = lit< tt
below_nan (inf false) f n = lit< tt
below_nan (fin s m e) f n = step_lt (rank (fin s m e)) (suc (bound + bound)) (under s m e f)

most : (x : Float) → Double x → rank x ≤ rank nan
unfolding rank is_nan
most nan f = lit≤ tt
most (inf true) f = lit≤ tt
most (inf false) f = lit≤ tt
most (fin s m e) f = lt_le (rank (fin s m e)) (rank nan) (below_nan (fin s m e) f refl)

-- ---- the rank is the order

unless : (p q : Bool) → (p || (q && false)) ≡ p
unless true q = refl
unless false true = refl
unless false false = refl

zeros_too : (a b : ℕ) → (ltb 0 (a + b) || (eqb a b && eqb a 0 && true)) ≡ true
zeros_too zero zero = refl
zeros_too zero (suc b) = rw (lt-ltb 0 (0 + suc b) (omega arith))
zeros_too (suc a) b = rw (lt-ltb 0 (suc a + b) (omega arith))

pub before_rank : (x y : Float) → Double x → Double y → before x y ≡ ltb (rank x) (rank y)
unfolding before rank lt eq has_minus is_nan
before_rank nan y f g = sym (le-ltb (rank nan) (rank y) (most y g))
before_rank (inf true) nan f g = refl
before_rank (inf false) nan f g = refl
before_rank (inf true) (inf true) f g = refl
before_rank (inf true) (inf false) f g = refl
before_rank (inf false) (inf true) f g = refl
before_rank (inf false) (inf false) f g = refl
before_rank (inf true) (fin t n d) f g = sym (lt-ltb 0 (rank (fin t n d)) (above t n d g))
before_rank (inf false) (fin t n d) f g = sym (le-ltb (suc (bound + bound)) (rank (fin t n d)) (lt_le (rank (fin t n d)) (suc (bound + bound)) (under t n d g)))
before_rank (fin s m e) nan f g = sym (lt-ltb (rank (fin s m e)) (rank nan) (below_nan (fin s m e) f refl))
before_rank (fin s m e) (inf true) f g = sym (le-ltb (rank (fin s m e)) 0 zero-le)
before_rank (fin s m e) (inf false) f g = sym (lt-ltb (rank (fin s m e)) (suc (bound + bound)) (under s m e f))
before_rank (fin true m e) (fin true n d) f g =
    let x = whole true m e f in
    let y = whole true n d g in
    unless (ltb (n * up d * down e) (m * up e * down d)) (eq (fin true m e) (fin true n d)) ∙ units_ltb n d m e y x ∙ down_ltb bound (units_at m e) (units_at n d) x.small y.small
before_rank (fin true m e) (fin false n d) f g = zeros_too (m * up e * down d) (n * up d * down e) ∙ across bound (units_at m e) (units_at n d)
before_rank (fin false m e) (fin true n d) f g = unless false (eq (fin false m e) (fin true n d)) ∙ back_across bound (units_at m e) (units_at n d)
before_rank (fin false m e) (fin false n d) f g = unless (ltb (m * up e * down d) (n * up d * down e)) (eq (fin false m e) (fin false n d)) ∙ units_ltb m e n d (whole false m e f) (whole false n d g) ∙ up_ltb bound (units_at m e) (units_at n d)

-- ---- no two doubles have the same rank

pub by_bits : (x y : Float) → Double x → Double y → to_bits binary64 x ≡ to_bits binary64 y → x ≡ y
by_bits x y f g e = sym (of_bits-to_bits binary64 x f) ∙ ap (λ (b : ℕ). of_bits binary64 b) e ∙ of_bits-to_bits binary64 y g

-- a pattern is made of the sign and the units
abbrev pattern : Bool → ℕ → ℕ
pattern s n = cond s (2 ^ 63) 0 + (size n - 53) * 2 ^ 52 + n / 2 ^ (size n - 53)

pattern_is : (s : Bool) (m : ℕ) (e : ℤ) → to_bits binary64 (fin s m e) ≡ pattern s (units_at m e)
unfolding to_bits
pattern_is s m e = refl

same_units : (s : Bool) (m : ℕ) (e : ℤ) (n : ℕ) (d : ℤ) → Double (fin s m e) → Double (fin s n d) → units_at m e ≡ units_at n d → fin s m e ≡ fin s n d
same_units s m e n d f g h = by_bits (fin s m e) (fin s n d) f g (pattern_is s m e ∙ ap (pattern s) h ∙ sym (pattern_is s n d))

off : (a b : ℕ) → a < b → a ≡ b → ⊥
off a b h e = omega arith

pub rank_one : (x y : Float) → Double x → Double y → rank x ≡ rank y → x ≡ y
unfolding rank is_nan
rank_one nan nan f g h = refl
rank_one nan (inf true) f g h = absurd (off (rank (inf true)) (rank nan) (lit< tt) (sym h))
rank_one nan (inf false) f g h = absurd (off (rank (inf false)) (rank nan) (lit< tt) (sym h))
rank_one nan (fin t n d) f g h = absurd (off (rank (fin t n d)) (rank nan) (below_nan (fin t n d) g refl) (sym h))
rank_one (inf true) nan f g h = absurd (off (rank (inf true)) (rank nan) (lit< tt) h)
rank_one (inf true) (inf true) f g h = refl
rank_one (inf true) (inf false) f g h = absurd (off (rank (inf true)) (rank (inf false)) (lit< tt) h)
rank_one (inf true) (fin t n d) f g h = absurd (off 0 (rank (fin t n d)) (above t n d g) h)
rank_one (inf false) nan f g h = absurd (off (rank (inf false)) (rank nan) (lit< tt) h)
rank_one (inf false) (inf true) f g h = absurd (off (rank (inf true)) (rank (inf false)) (lit< tt) (sym h))
rank_one (inf false) (inf false) f g h = refl
rank_one (inf false) (fin t n d) f g h = absurd (off (rank (fin t n d)) (rank (inf false)) (under t n d g) (sym h))
rank_one (fin s m e) nan f g h = absurd (off (rank (fin s m e)) (rank nan) (below_nan (fin s m e) f refl) h)
rank_one (fin s m e) (inf true) f g h = absurd (off 0 (rank (fin s m e)) (above s m e f) (sym h))
rank_one (fin s m e) (inf false) f g h = absurd (off (rank (fin s m e)) (rank (inf false)) (under s m e f) h)
rank_one (fin true m e) (fin true n d) f g h = same_units true m e n d f g (same_low bound (units_at m e) (units_at n d) (whole true m e f).small (whole true n d g).small h)
rank_one (fin true m e) (fin false n d) f g h = absurd (never bound (units_at m e) (units_at n d) h)
rank_one (fin false m e) (fin true n d) f g h = absurd (never bound (units_at n d) (units_at m e) (sym h))
rank_one (fin false m e) (fin false n d) f g h = same_units false m e n d f g (same_high bound (units_at m e) (units_at n d) h)

-- ---- the laws of the order

pub not_before : (x y : Float) → Double x → Double y → before x y ≡ false → rank y ≤ rank x
not_before x y f g h = ltb-false (rank x) (rank y) (sym (before_rank x y f g) ∙ h)

pub is_before : (x y : Float) → Double x → Double y → before x y ≡ true → rank x < rank y
is_before x y f g h = ltb-true (rank x) (rank y) (sym (before_rank x y f g) ∙ h)

pub no_before : (x y : Float) → Double x → Double y → rank y ≤ rank x → before x y ≡ false
no_before x y f g h = before_rank x y f g ∙ le-ltb (rank x) (rank y) h
