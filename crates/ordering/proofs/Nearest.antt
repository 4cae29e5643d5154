-- The rounding that the code does is `closest`, and the place that it gives lies in the list. Assumes nothing.
use Rattle.std.proofs.Common.{◌≡◌, ℕ, zero, suc, ◌+◌, ◌-◌, ◌*◌, ◌/◌, ◌%◌, ◌^◌, ◌<◌, ◌≤◌, min, Bool, true, false, not, ◌&&◌, ◌||◌, T, eqb, ltb, ◌⊎◌, List, [], ◌∷◌, length, get_or, ℤ, pos, sym, refl, ap, ◌∙◌, subst, inl, inr, ⊎_elim, true≢false, zero-le, le_trans, le_of_eq, lt_of_lt_of_le, mul-le-mul_right, mod-lt, mul_assoc, div-lt_iff_lt-mul, le_antisymm, mul-lt-mul_of_pos_right, mul-pos, div-add-mod', zero-mul, mul-one, mul_right_comm, le_of_mul-le-mul_right, mul_left_comm, add-one, arith, lit<, lit≤, eqb→eq, ltb→lt, lt→ltb, leb→le, pow_pos, shl_lt, ltb-false, ltb-true, le-ltb, lt-ltb}
use Prim.Native.Nat.{compare, Ordering}
use mathlib.Core.Bool.{false≢true}
use native.Mathlib.Nat.{eq_of_mul-eq-mul_right}
use native.Mathlib.Decide.{dec_lt}
use lib.Dec.{is_le, compare_is_eq, nleb→lt, eqb_refl}
use lib.Arith.{lt_of_le-ne}
use lib.Ieee.{Float, nan, inf, fin, binary64, nearest, round, of_int, of_bits, mul, div, sub, lt, le, up, down, to_unsigned}
use lib.Ieee.Fits.{down_pos, and_l}
use lib.Ieee.Exact.{HasValue, round_exact}
use lib.Ieee.Back.{round_whole}
use lib.Ieee.Nearest.{closest, closest_mono}
use lib.Ieee.Order.{round_mono}
use Rattle.ordering.specs.Nearest.{Rounded, whole_of, place, quantile}
use Rattle.ordering.specs.Inner.{Part, Short}
use Rattle.arithmetic.specs.Arithmetic.{count_of}
use Rattle.ordering.specs.Order.{sorted}
use Rattle.ordering.proofs.Rank.{same_ltb, no_lt}

-- ---- what `compare` says

abbrev Cmp : Ordering → ℕ → ℕ → Type 0
Cmp Ordering.lt a b = a < b
Cmp Ordering.eq a b = a ≡ b
Cmp Ordering.gt a b = b < a

cmp : (a b : ℕ) → Cmp (compare a b) a b
cmp a b = go (compare a b) (leb→le a b) (nleb→lt a b) (eqb→eq a b) (λ (e : a ≡ b). subst (λ (x : ℕ). T (eqb a x)) e (eqb_refl a))
  where
    go : (o : Ordering) → (T (is_le o) → a ≤ b) → (T (not (is_le o)) → b < a) → (T (compare_is_eq o) → a ≡ b) → (a ≡ b → T (compare_is_eq o)) → Cmp o a b
    go Ordering.lt h k e n = lt_of_le-ne (h tt) n
    go Ordering.eq h k e n = e tt
    go Ordering.gt h k e n = k tt

module _ (t r b : ℕ) where
  less : r * 2 < b → nearest t (compare (r * 2) b) ≡ t
  less h = go (compare (r * 2) b) (cmp (r * 2) b)
    where
      go : (o : Ordering) → Cmp o (r * 2) b → nearest t o ≡ t
      go Ordering.lt c = refl
      go Ordering.eq c = absurd (omega arith)
      go Ordering.gt c = absurd (omega arith)

  more : b < r * 2 → nearest t (compare (r * 2) b) ≡ suc t
  more h = go (compare (r * 2) b) (cmp (r * 2) b)
    where
      go : (o : Ordering) → Cmp o (r * 2) b → nearest t o ≡ suc t
      go Ordering.lt c = absurd (omega arith)
      go Ordering.eq c = absurd (omega arith)
      go Ordering.gt c = refl

  tie : r * 2 ≡ b → nearest t (compare (r * 2) b) ≡ t + t % 2
  tie h = go (compare (r * 2) b) (cmp (r * 2) b)
    where
      go : (o : Ordering) → Cmp o (r * 2) b → nearest t o ≡ t + t % 2
      go Ordering.lt c = absurd (omega arith)
      go Ordering.eq c = refl
      go Ordering.gt c = absurd (omega arith)

-- ---- `closest` is the rounding, and there is no other

rounded_tie : (t r b z : ℕ) → r * 2 ≡ b → t % 2 ≡ z → Rounded (t * b + r) b (t + z)
rounded_tie t r b zero h e = record { low = omega arith; high = omega arith; even = λ _. omega arith }
rounded_tie t r b (suc zero) h e = record { low = omega arith; high = omega arith; even = λ _. omega arith }
rounded_tie t r b (suc (suc z)) h e = absurd (omega arith)

rounded_at : (t r b : ℕ) → r < b → (o : Ordering) → Cmp o (r * 2) b → Rounded (t * b + r) b (nearest t o)
rounded_at t r b h Ordering.lt c = record {
  low = omega arith;
  high = omega arith;
  even = λ e. absurd (⊎_elim (λ (p : 2 * (t * b) ≡ 2 * (t * b + r) + b). let q : ⊥ = omega arith in q) (λ (p : 2 * (t * b + r) ≡ 2 * (t * b) + b). let q : ⊥ = omega arith in q) e);
}
rounded_at t r b h Ordering.eq c = rounded_tie t r b (t % 2) c refl
rounded_at t r b h Ordering.gt c = record {
  low = omega arith;
  high = omega arith;
  even = λ e. absurd (⊎_elim (λ (p : 2 * (suc t * b) ≡ 2 * (t * b + r) + b). let q : ⊥ = omega arith in q) (λ (p : 2 * (t * b + r) ≡ 2 * (suc t * b) + b). let q : ⊥ = omega arith in q) e);
}

pub closest_rounded : (a b : ℕ) → 0 < b → Rounded a b (closest a b)
closest_rounded a b h = subst (λ (x : ℕ). Rounded x b (closest a b)) (div-add-mod' a b) (rounded_at (a / b) (a % b) b (mod-lt a h) (compare (a % b * 2) b) (cmp (a % b * 2) b))

no_less : (a b j k : ℕ) → 0 < b → Rounded a b j → Rounded a b k → j < k → ⊥
no_less a b j k h x y l =
    let m : suc j * b ≤ k * b = mul-le-mul_right b l in
    let lo : 2 * (k * b) ≤ 2 * a + b = y.low in
    let hi : 2 * a ≤ 2 * (j * b) + b = x.high in
    let e1 : 2 * a ≡ 2 * (j * b) + b = omega arith in
    let e2 : 2 * (k * b) ≡ 2 * a + b = omega arith in
    let e3 : k * b ≡ suc j * b = omega arith in
    let e4 : k ≡ suc j = eq_of_mul-eq-mul_right b h k (suc j) e3 in
    let o1 : j % 2 ≡ 0 = x.even (inr e1) in
    let o2 : k % 2 ≡ 0 = y.even (inl e2) in
    parity j k e4 o1 o2
  where
    parity : (j k : ℕ) → k ≡ suc j → j % 2 ≡ 0 → k % 2 ≡ 0 → ⊥
    parity j k e x y = omega arith

pub rounded_one : (a b j k : ℕ) → 0 < b → Rounded a b j → Rounded a b k → j ≡ k
rounded_one a b j k h x y = le_antisymm (no_lt (no_less a b k j h y x)) (no_lt (no_less a b j k h x y))

-- ---- the test against t and a half

shift_ltb : (c u v : ℕ) → ltb (c + u) (c + v) ≡ ltb u v
shift_ltb c u v = go (dec_lt u v)
  where
    go : Dec (u < v) → ltb (c + u) (c + v) ≡ ltb u v
    go (yes l) = lt-ltb (c + u) (c + v) (omega arith) ∙ sym (lt-ltb u v l)
    go (no f) = let l : v ≤ u = no_lt f in le-ltb (c + u) (c + v) (omega arith) ∙ sym (le-ltb u v l)

-- the double n / d with the value (2t + 1) / 2, against the double a / b with whole part t and remainder r
module _ (a b t r n d : ℕ) (D : 0 < d) (e : a ≡ t * b + r) (h : n * 2 ≡ (2 * t + 1) * d) where
  left : a * 2 ≡ 2 * (t * b) + r * 2
  left = omega arith

  right : (2 * t + 1) * b ≡ 2 * (t * b) + b
  right = omega arith

  scaled : n * b * 2 ≡ (2 * t + 1) * b * d
  scaled = mul_right_comm n b 2 ∙ ap (λ (x : ℕ). x * b) h ∙ mul_right_comm (2 * t + 1) d b

  half_ltb : ltb (a * d) (n * b) ≡ ltb (r * 2) b
  half_ltb =
      same_ltb (a * d) (n * b) (a * 2) ((2 * t + 1) * b) 2 d (lit< tt) D (mul_right_comm a d 2) scaled
      ∙ rw (left, right) (shift_ltb (2 * (t * b)) (r * 2) b)

  half_ltb_back : ltb (n * b) (a * d) ≡ ltb b (r * 2)
  half_ltb_back =
      same_ltb (n * b) (a * d) ((2 * t + 1) * b) (a * 2) 2 d (lit< tt) D scaled (mul_right_comm a d 2)
      ∙ rw (left, right) (shift_ltb (2 * (t * b)) b (r * 2))

-- ---- the whole part

cut : (a b : ℕ) → a * 1 < 2 ^ 52 * b → 0 < b → (min (a / b) (2 ^ 64 - 1) ≡ a / b) × (a / b < 2 ^ 52)
cut a b h p =
    let l : a / b < 2 ^ 52 = (div-lt_iff_lt-mul p).1 (subst (λ (x : ℕ). x < 2 ^ 52 * b) (mul-one a) h) in
    (capped (a / b) l, l)
  where
    capped : (t : ℕ) → t < 2 ^ 52 → min t (2 ^ 64 - 1) ≡ t
    capped t l = omega arith

short_cut : (m : ℕ) (e : ℤ) → Short (fin false m e) → (min (m * up e / down e) (2 ^ 64 - 1) ≡ m * up e / down e) × (m * up e / down e < 2 ^ 52)
unfolding lt
short_cut m e s = cut (m * up e) (down e) (ltb→lt (m * up e * 1) (2 ^ 52 * down e) s.below) (down_pos e)

pub whole_small : (x : Float) → Short x → to_unsigned 64 x < 2 ^ 52
unfolding to_unsigned lt
whole_small nan s = absurd s.above
whole_small (inf true) s = absurd s.above
whole_small (inf false) s = absurd s.below
whole_small (fin true m e) s = pow_pos 52
whole_small (fin false m e) s = let c = short_cut m e s in subst (λ (t : ℕ). t < 2 ^ 52) (sym c.0) c.1

pub short_fits : (x : Float) → Short x → T (lt x (fin false 1 (pos 64)))
unfolding lt
short_fits nan s = absurd s.above
short_fits (inf true) s = absurd s.above
short_fits (inf false) s = absurd s.below
short_fits (fin true m e) s = let p = down_pos e in lt→ltb 0 (m * up e * 1 + 2 ^ 64 * down e) (omega arith)
short_fits (fin false m e) s =
    let h : m * up e * 1 < 2 ^ 52 * down e = ltb→lt (m * up e * 1) (2 ^ 52 * down e) s.below in
    lt→ltb (m * up e * 1) (2 ^ 64 * down e) (omega arith)

-- what the two tests of a double above zero say
module _ (m : ℕ) (e : ℤ) (n : ℕ) (d : ℤ) (s : Short (fin false m e)) (v : HasValue (fin false n d) false (2 * to_unsigned 64 (fin false m e) + 1) 2) where
  part_is : m * up e ≡ m * up e / down e * down e + m * up e % down e
  part_is = sym (div-add-mod' (m * up e) (down e))

  half_is : n * up d * 2 ≡ (2 * (m * up e / down e) + 1) * down d
  unfolding to_unsigned
  half_is = subst (λ (t : ℕ). n * up d * 2 ≡ (2 * t + 1) * down d) (short_cut m e s).0 v.1

  under : lt (fin false m e) (fin false n d) ≡ ltb (m * up e % down e * 2) (down e)
  unfolding lt
  under = half_ltb (m * up e) (down e) (m * up e / down e) (m * up e % down e) (n * up d) (down d) (down_pos d) part_is half_is

  beyond : lt (fin false n d) (fin false m e) ≡ ltb (down e) (m * up e % down e * 2)
  unfolding lt
  beyond = half_ltb_back (m * up e) (down e) (m * up e / down e) (m * up e % down e) (n * up d) (down d) (down_pos d) part_is half_is

  under_is : lt (fin false m e) (fin false n d) ≡ true → to_unsigned 64 (fin false m e) ≡ whole_of (fin false m e)
  unfolding to_unsigned whole_of
  under_is h = (short_cut m e s).0 ∙ sym (less (m * up e / down e) (m * up e % down e) (down e) (ltb-true _ _ (sym under ∙ h)))

  beyond_is : lt (fin false n d) (fin false m e) ≡ true → to_unsigned 64 (fin false m e) + 1 ≡ whole_of (fin false m e)
  unfolding to_unsigned whole_of
  beyond_is h =
      ap (λ (t : ℕ). t + 1) (short_cut m e s).0 ∙ add-one (m * up e / down e)
      ∙ sym (more (m * up e / down e) (m * up e % down e) (down e) (ltb-true _ _ (sym beyond ∙ h)))

  tie_is : lt (fin false m e) (fin false n d) ≡ false → lt (fin false n d) (fin false m e) ≡ false → to_unsigned 64 (fin false m e) + to_unsigned 64 (fin false m e) % 2 ≡ whole_of (fin false m e)
  unfolding to_unsigned whole_of
  tie_is h g =
      ap (λ (t : ℕ). t + t % 2) (short_cut m e s).0
      ∙ sym (tie (m * up e / down e) (m * up e % down e) (down e) (le_antisymm (ltb-false _ _ (sym beyond ∙ g)) (ltb-false _ _ (sym under ∙ h))))

pub whole_less : (x h : Float) → Short x → HasValue h false (2 * to_unsigned 64 x + 1) 2 → lt x h ≡ true → to_unsigned 64 x ≡ whole_of x
unfolding to_unsigned whole_of lt
whole_less nan h s v t = absurd s.above
whole_less (inf true) h s v t = absurd s.above
whole_less (inf false) h s v t = absurd s.below
whole_less (fin true m e) h s v t = refl
whole_less (fin false m e) nan s v t = absurd v
whole_less (fin false m e) (inf u) s v t = absurd v
whole_less (fin false m e) (fin true n d) s v t = absurd (true≢false v.0)
whole_less (fin false m e) (fin false n d) s v t = under_is m e n d s v t

pub whole_more : (x h : Float) → Short x → HasValue h false (2 * to_unsigned 64 x + 1) 2 → lt h x ≡ true → to_unsigned 64 x + 1 ≡ whole_of x
unfolding to_unsigned whole_of lt
whole_more nan h s v t = absurd s.above
whole_more (inf true) h s v t = absurd s.above
whole_more (inf false) h s v t = absurd s.below
whole_more (fin u m e) nan s v t = absurd v
whole_more (fin u m e) (inf w) s v t = absurd v
whole_more (fin u m e) (fin true n d) s v t = absurd (true≢false v.0)
whole_more (fin true m e) (fin false n d) s v t = absurd (false≢true t)
whole_more (fin false m e) (fin false n d) s v t = beyond_is m e n d s v t

pub whole_tie : (x h : Float) → Short x → HasValue h false (2 * to_unsigned 64 x + 1) 2 → lt x h ≡ false → lt h x ≡ false → to_unsigned 64 x + to_unsigned 64 x % 2 ≡ whole_of x
unfolding to_unsigned whole_of lt
whole_tie nan h s v t u = absurd s.above
whole_tie (inf true) h s v t u = absurd s.above
whole_tie (inf false) h s v t u = absurd s.below
whole_tie (fin true m e) h s v t u = refl
whole_tie (fin false m e) nan s v t u = absurd v
whole_tie (fin false m e) (inf w) s v t u = absurd v
whole_tie (fin false m e) (fin true n d) s v t u = absurd (true≢false v.0)
whole_tie (fin false m e) (fin false n d) s v t u = tie_is m e n d s v t u

-- ---- t and a half as a double

-- from one fraction to another of the same size: both are parts of E
rescale : (x : Float) (a c E : ℕ) → 0 < E → HasValue x false (a * E) (c * E) → HasValue x false a c
rescale nan a c E p v = v
rescale (inf s) a c E p v = v
rescale (fin s m e) a c E p v = (
  v.0,
  eq_of_mul-eq-mul_right E p (m * up e * c) (a * down e) (mul_assoc (m * up e) c E ∙ v.1 ∙ mul_right_comm a E (down e)),
)

shuffle : (q E P : ℕ) → q * E * (P * 2) ≡ q * P * (2 * E)
shuffle q E P = omega arith

halved : (t E : ℕ) → t < 2 ^ 52 → 0 < E → HasValue (round binary64 false ((2 * t + 1) * E) (2 * E)) false (2 * t + 1) 2
halved t E h p =
    let q : 2 * t + 1 < 2 ^ 53 = omega arith in
    rescale (round binary64 false ((2 * t + 1) * E) (2 * E)) (2 * t + 1) 2 E p
    (round_exact binary64 false ((2 * t + 1) * E) (2 * E) (2 * t + 1) 1073 (mul-pos (lit< tt) p) q
    (lt_of_lt_of_le (shl_lt 53 1073 q) (lit≤ tt)) (shuffle (2 * t + 1) E (2 ^ 1073)))

pub half_value : (y : Float) (t : ℕ) → t < 2 ^ 52 → HasValue y false (2 * t + 1) 1 → HasValue (div binary64 y (of_bits binary64 0x4000_0000_0000_0000)) false (2 * t + 1) 2
unfolding div of_bits
half_value nan t h v = absurd v
half_value (inf s) t h v = absurd v
half_value (fin true m e) t h v = absurd (true≢false v.0)
half_value (fin false m e) t h v = subst (λ (a : ℕ). HasValue (round binary64 false a (2 * down e)) false (2 * t + 1) 2) (sym v.1) (halved t (down e) h (down_pos e))

pub half_of : (t : ℕ) → t < 2 ^ 52 → HasValue (div binary64 (of_int binary64 (pos (2 * t + 1))) (of_bits binary64 0x4000_0000_0000_0000)) false (2 * t + 1) 2
unfolding of_int
half_of t h = half_value (round binary64 false (2 * t + 1) 1) t h (round_whole binary64 false (2 * t + 1) (omega arith))

-- ---- a product of a part and a count

-- a double from 0 to a whole number n
abbrev Between : Float → ℕ → Type 0
Between x n = Short x × (whole_of x ≤ n)

or_eq : (a b : Bool) → T (a || b) → T a ⊎ T b
or_eq true b t = inl tt
or_eq false b t = inr t

at_most : (a b : ℕ) → T (ltb a b || (eqb a b && true)) → a ≤ b
at_most a b t = ⊎_elim (λ h. le_of_lt' a b (ltb→lt a b h)) (λ h. le_of_eq (eqb→eq a b (and_l (eqb a b) true h))) (or_eq (ltb a b) (eqb a b && true) t)
  where
    le_of_lt' : (a b : ℕ) → a < b → a ≤ b
    le_of_lt' a b h = omega arith

closest_whole : (n : ℕ) → closest n 1 ≡ n
closest_whole n = less (n / 1) (n % 1) 1 (omega arith) ∙ omega arith

zero_of_mul : (a b : ℕ) → 0 < b → a * b ≡ 0 → a ≡ 0
zero_of_mul a b h e = eq_of_mul-eq-mul_right b h a 0 (e ∙ sym (zero-mul b))

-- -0 alone is at least 0 with a minus sign
minus_zero : (m : ℕ) (e : ℤ) (k : ℕ) (d : ℤ) → k * up d * 1 ≡ 0 * down d → T (le (fin false k d) (fin true m e)) → m * up e ≡ 0
unfolding le
minus_zero m e k d h t =
    let z : k * up d ≡ 0 = sym (mul-one (k * up d)) ∙ h ∙ zero-mul (down d) in
    let q : k * up d * down e ≡ m * up e * down d = eqb→eq (k * up d * down e) (m * up e * down d) (and_l (eqb (k * up d * down e) (m * up e * down d)) (eqb (k * up d * down e) 0) t) in
    zero_of_mul (m * up e) (down d) (down_pos d) (sym q ∙ ap (λ (x : ℕ). x * down e) z ∙ zero-mul (down e))

between_minus : (m : ℕ) (e : ℤ) (n : ℕ) → m * up e ≡ 0 → Between (fin true m e) n
unfolding lt whole_of
between_minus m e n h =
    let p = down_pos e in (
      record {
        above = lt→ltb (m * up e * 1) (1 * down e) (omega arith);
        below = lt→ltb 0 (m * up e * 1 + 2 ^ 52 * down e) (omega arith);
      },
      zero-le,
    )

between_plain : (m : ℕ) (e : ℤ) (n k : ℕ) (d : ℤ) → n < 2 ^ 52 → k * up d * 1 ≡ n * down d → T (le (fin false m e) (fin false k d)) → Between (fin false m e) n
unfolding lt le whole_of
between_plain m e n k d s h t =
    let p = down_pos e in
    let l : m * up e * down d ≤ k * up d * down e = at_most (m * up e * down d) (k * up d * down e) t in
    let q : k * up d * down e ≡ n * down e * down d = ap (λ (x : ℕ). x * down e) (sym (mul-one (k * up d)) ∙ h) ∙ mul_right_comm n (down d) (down e) in
    let g : m * up e ≤ n * down e = le_of_mul-le-mul_right (subst (λ (x : ℕ). m * up e * down d ≤ x) q l) (down_pos d) in
    let w : n * down e < 2 ^ 52 * down e = mul-lt-mul_of_pos_right s p in (
      record {
        above = lt→ltb 0 (1 * down e + m * up e * 1) (omega arith);
        below = lt→ltb (m * up e * 1) (2 ^ 52 * down e) (omega arith);
      },
      subst (λ (x : ℕ). closest (m * up e) (down e) ≤ x) (closest_whole n) (closest_mono (m * up e) (down e) n 1 p (lit< tt) (subst (λ (x : ℕ). x ≤ n * down e) (sym (mul-one (m * up e))) g)),
    )

pub between : (x z y : Float) (n : ℕ) → n < 2 ^ 52 → HasValue z false 0 1 → HasValue y false n 1 → T (le z x) → T (le x y) → Between x n
unfolding le
between x nan y n s p q g h = absurd p
between x (inf t) y n s p q g h = absurd p
between x (fin true k d) y n s p q g h = absurd (true≢false p.0)
between x (fin false k d) nan n s p q g h = absurd q
between x (fin false k d) (inf t) n s p q g h = absurd q
between x (fin false k d) (fin true j c) n s p q g h = absurd (true≢false q.0)
between nan (fin false k d) (fin false j c) n s p q g h = absurd g
between (inf true) (fin false k d) (fin false j c) n s p q g h = absurd g
between (inf false) (fin false k d) (fin false j c) n s p q g h = absurd h
between (fin true m e) (fin false k d) (fin false j c) n s p q g h = between_minus m e n (minus_zero m e k d p.1 g)
between (fin false m e) (fin false k d) (fin false j c) n s p q g h = between_plain m e n j c s q.1 h

-- ---- q times a whole number, for a q from 0 to 1

zero_between : (x : Float) (n den : ℕ) → 0 < den → HasValue x true 0 den → Between x n
zero_between nan n den p v = absurd v
zero_between (inf s) n den p v = absurd v
zero_between (fin true m e) n den p v = between_minus m e n (zero_of_mul (m * up e) den p (v.1 ∙ zero-mul (down e)))
zero_between (fin false m e) n den p v = absurd (false≢true v.0)

round_between : (a b n : ℕ) → 0 < b → n < 2 ^ 52 → a ≤ n * b → Between (round binary64 false a b) n
round_between a b n p s h =
    between (round binary64 false a b) (round binary64 false 0 1) (round binary64 false n 1) n s
    (round_whole binary64 false 0 zero-le) (round_whole binary64 false n (omega arith))
    (round_mono binary64 0 1 a b (lit< tt) p (omega arith)) (round_mono binary64 a b n 1 p (lit< tt) (omega arith))

one_le : (m : ℕ) (e : ℤ) → T (le (fin false m e) (fin false 1 (pos 0))) → m * up e ≤ down e
unfolding le
one_le m e t = let h = at_most (m * up e * 1) (1 * down e) t in omega arith

pub times : (q y : Float) (n : ℕ) → n < 2 ^ 52 → HasValue y false n 1 → Part q → Between (mul binary64 q y) n
unfolding mul of_bits le
times nan y n s v p = absurd p.low
times (inf true) y n s v p = absurd p.low
times (inf false) y n s v p = absurd p.high
times (fin t m e) nan n s v p = absurd v
times (fin t m e) (inf u) n s v p = absurd v
times (fin t m e) (fin true c d) n s v p = absurd (true≢false v.0)
times (fin true m e) (fin false c d) n s v p =
    let z : m * up e ≡ 0 = minus_zero m e 0 (pos 0) refl p.low in
    let b : 0 < down e * down d = mul-pos (down_pos e) (down_pos d) in
    let w : m * up e * (c * up d) ≡ 0 = ap (λ (x : ℕ). x * (c * up d)) z ∙ zero-mul (c * up d) in
    subst (λ (x : ℕ). Between (round binary64 true x (down e * down d)) n) (sym w)
    (zero_between (round binary64 true 0 (down e * down d)) n (down e * down d) b
    (round_exact binary64 true 0 (down e * down d) 0 0 b (lit< tt) (lit< tt) (sym (zero-mul (down e * down d)))))
times (fin false m e) (fin false c d) n s v p =
    let h : m * up e ≤ down e = one_le m e p.high in
    let w : c * up d ≡ n * down d = sym (mul-one (c * up d)) ∙ v.1 in
    let k : m * up e * (c * up d) ≤ n * (down e * down d) = subst (λ (x : ℕ). m * up e * x ≤ n * (down e * down d)) (sym w) (le_trans (mul-le-mul_right (n * down d) h) (le_of_eq (mul_left_comm (down e) n (down d)))) in
    round_between (m * up e * (c * up d)) (down e * down d) n (mul-pos (down_pos e) (down_pos d)) s k

pub product : (q : Float) (n : ℕ) → n < 2 ^ 52 → Part q → Between (mul binary64 q (of_int binary64 (pos n))) n
unfolding of_int
product q n s p = times q (round binary64 false n 1) n s (round_whole binary64 false n (omega arith)) p

-- the place lies in the list
pub place_in : (q : Float) (n : ℕ) → 0 < n → n ≤ 2 ^ 52 → Part q → place q n < n
unfolding place count_of
place_in q n h s p = let b = (product q (n - 1) (omega arith) p).1 in omega arith

-- ---- 1 − q, for a q from 0 to 1

round_part : (a b : ℕ) → 0 < b → a ≤ b → Part (round binary64 false a b)
unfolding round of_bits
round_part a b p h = record {
  low = round_mono binary64 0 1 a b (lit< tt) p (omega arith);
  high = round_mono binary64 a b 1 1 p (lit< tt) (omega arith);
}

pub rest_part : (q : Float) → Part q → Part (sub binary64 (of_bits binary64 0x3ff0_0000_0000_0000) q)
unfolding sub of_bits le
rest_part nan p = absurd p.low
rest_part (inf true) p = absurd p.low
rest_part (inf false) p = absurd p.high
rest_part (fin true m e) p =
    let z : m * up e ≡ 0 = minus_zero m e 0 (pos 0) refl p.low in
    let b = down_pos e in
    round_part (1 * down e + m * up e * 1) (1 * down e) (omega arith) (omega arith)
rest_part (fin false m e) p =
    let h : m * up e ≤ down e = one_le m e p.high in
    let b = down_pos e in
    rw (le-ltb (1 * down e) (m * up e * 1) (omega arith)) (round_part (1 * down e - m * up e * 1) (1 * down e) (omega arith) (omega arith))

-- ---- the two ways of a quantile

pub quantile_none : (q : Float) (l : List Float) → length l ≡ 0 → of_bits binary64 0 ≡ quantile q l
unfolding quantile
quantile_none q [] e = refl
quantile_none q (x ∷ l) e = absurd (omega arith)

pub quantile_some : (q : Float) (l : List Float) → (length l ≡ 0 → ⊥) → get_or (sorted l) (place q (length l)) nan ≡ quantile q l
unfolding quantile
quantile_some q [] e = absurd (e refl)
quantile_some q (x ∷ l) e = refl
