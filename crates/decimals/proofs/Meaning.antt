-- "The value is the double nearest the exact decimal": one law for every decimal. Its digits and its power of ten are doubles exactly, and the one division rounds to the nearest. Assumes nothing.
use mathlib.Core.Path.{◌≡◌, refl, sym, ap, ◌∙◌, subst}
use mathlib.Core.Bool.{Bool, true, false, ◌&&◌, true≢false}
use mathlib.Core.Logic.{◌⊎◌, inl, inr}
use mathlib.Core.List.{List}
use Prim.Native.Nat.{ℕ, zero, suc, ◌+◌, ◌*◌, ◌^◌, ◌≤◌, ◌<◌}
use native.Mathlib.Nat.{zero-lt-suc, le_trans, lt_of_lt_of_le, le_of_lt, mul-one, one-mul, zero-mul, mul_assoc, mul_comm, mul-pos, mul-le-mul_left, mul-le-mul_right, eq_of_mul-eq-mul_right, pow-le-pow_right}
use native.Mathlib.Omega.{arith}
use borrow.Author.Tests.{ne_eqb}
use lib.IntN.{ℤ, pos}
use lib.Dec.{T, lit<, lit≤}
use lib.ListN.{length}
use lib.Pow.{pow-add, pow_pos, pow_mono}
use lib.Ieee.{Float, nan, inf, fin, binary64, up, down, fits, round, div, neg, of_int}
use lib.Ieee.Fits.{down_pos, round-fits, neg-fits}
use lib.Ieee.Exact.{HasValue, round_exact}
use lib.Ieee.Scale.{finite, round_same}
use Rattle.arithmetic.specs.Exact.{units_of, apart}
use Rattle.arithmetic.proofs.Units.{Digits, digits_of_lem, units_are, units_alone, plain_value}
use Rattle.arithmetic.proofs.Whole.{count_value}
use Rattle.fields.specs.Split.{all}
use Rattle.fields.specs.Numerals.{in_base, number}
use Rattle.fields.proofs.Every.{both_left, both_right}
use Rattle.decimals.specs.Decimal.{signed, bare, front, back, points, shaped, is_bare, digits_of, places_of, over_tens, signed_by, is_decimal, decimal_of}
use Rattle.decimals.specs.Nearest.{gap, NearestTo}
use Rattle.decimals.proofs.Reading.{shaped_sum, number_joined, number_lt, front_lt, pow_pos_ten}
use Rattle.decimals.proofs.Rounding.{Near, round_near}

-- ---- the quotient of two whole numbers that are doubles is their exact quotient, rounded once

shuffle : (n E K d : ℕ) → n * E * K * d ≡ n * (d * K * E)
shuffle n E K d = mul_assoc (n * E) K d ∙ mul_assoc n E (K * d) ∙ ap (λ (z : ℕ). n * z) (mul_comm E (K * d) ∙ ap (λ (z : ℕ). z * E) (mul_comm K d))

nonzero : (b u D E : ℕ) → b * u * 1 ≡ D * E → 0 < D → 0 < E → b ≡ 0 → ⊥
nonzero b u D E h p q e =
    let z : b * u * 1 ≡ 0 = mul-one (b * u) ∙ ap (λ (x : ℕ). x * u) e ∙ zero-mul u in
    let l : 0 < D * E = mul-pos p q in
    omega arith

opened : (m : ℕ) (e : ℤ) (b : ℕ) (k : ℤ) → (b ≡ 0 → ⊥) → div binary64 (fin false m e) (fin false b k) ≡ round binary64 false (m * up e * down k) (b * up k * down e)
unfolding div
opened m e b k h = rw (ne_eqb b 0 h)

div_at : (x y : Float) (n d : ℕ) → 0 < d → HasValue x false n 1 → HasValue y false d 1 → div binary64 x y ≡ round binary64 false n d
div_at nan y n d D p q = absurd p
div_at (inf s) y n d D p q = absurd p
div_at (fin true m e) y n d D p q = absurd (true≢false p.0)
div_at (fin false m e) nan n d D p q = absurd q
div_at (fin false m e) (inf t) n d D p q = absurd q
div_at (fin false m e) (fin true b k) n d D p q = absurd (true≢false q.0)
div_at (fin false m e) (fin false b k) n d D p q =
    let M : m * up e ≡ n * down e = sym (mul-one (m * up e)) ∙ p.1 in
    let B : b * up k ≡ d * down k = sym (mul-one (b * up k)) ∙ q.1 in
    let P : 0 < b * up k * down e = subst (λ (z : ℕ). 0 < z * down e) (sym B) (mul-pos (mul-pos D (down_pos k)) (down_pos e)) in
    opened m e b k (nonzero b (up k) d (down k) q.1 D (down_pos k))
    ∙ round_same binary64 false (m * up e * down k) (b * up k * down e) n d P D
    (ap (λ (z : ℕ). z * down k * d) M ∙ shuffle n (down e) (down k) d ∙ ap (λ (z : ℕ). n * (z * down e)) (sym B))

pub over_tens_is : (n k : ℕ) → n ≤ 2 ^ 53 → 10 ^ k ≤ 2 ^ 53 → over_tens n k ≡ round binary64 false n (10 ^ k)
unfolding over_tens
over_tens_is n k h l = div_at (of_int binary64 (pos n)) (of_int binary64 (pos (10 ^ k))) n (10 ^ k) (pow_pos_ten k) (count_value n h) (count_value (10 ^ k) l)

-- ---- zero

zero_any : (x : Float) (d c : ℕ) → 0 < d → HasValue x false 0 d → HasValue x false 0 c
zero_any nan d c D h = h
zero_any (inf s) d c D h = h
zero_any (fin t m e) d c D h = (
  h.0,
  ap (λ (z : ℕ). z * c) (eq_of_mul-eq-mul_right d D (m * up e) 0 (h.1 ∙ zero-mul (down e) ∙ sym (zero-mul d))) ∙ zero-mul c ∙ sym (zero-mul (down e)),
)

zero_gap : (L d v : ℕ) → 0 < d → (v ≡ 0) ⊎ (apart (0 * L) (0 * d) < apart (0 * L) (v * d))
zero_gap L d zero D = inl refl
zero_gap L d (suc v) D =
    let a : 0 * L ≡ 0 = zero-mul L in
    let b : 0 * d ≡ 0 = zero-mul d in
    let e : 0 < suc v * d = mul-pos (zero-lt-suc v) D in
    inr (omega arith)

zero_near : (d : ℕ) → 0 < d → Near (round binary64 false 0 d) 0 d
zero_near d D = record {
  size = 0;
  is = zero_any (round binary64 false 0 d) d (2 ^ 1074) D
      (round_exact binary64 false 0 d 0 0 D (pow_pos 53) (pow_pos 2098) (zero-mul (2 ^ 1074) ∙ sym (zero-mul d)));
  near = λ v g. zero_gap (2 ^ 1074) d v D;
}

-- ---- n / d, for an n and a d up to 2^53

fine : (n d : ℕ) → 0 < n → d ≤ 2 ^ 53 → 2 ^ 52 * d ≤ n * 2 ^ 1074
fine n d h l =
    le_trans (mul-le-mul_left (2 ^ 52) l)
    (le_trans (pow_mono {i = 105} {j = 1074} (lit≤ tt)) (subst (λ (z : ℕ). z ≤ n * 2 ^ 1074) (one-mul (2 ^ 1074)) (mul-le-mul_right (2 ^ 1074) h)))

pub fraction_near : (n d : ℕ) → n < 2 ^ 53 → 0 < d → d ≤ 2 ^ 53 → Near (round binary64 false n d) n d
fraction_near zero d h D l = zero_near d D
fraction_near (suc n) d h D l = let p : 0 < suc n = omega arith in round_near (suc n) d p h D (fine (suc n) d p l)

-- ---- the distances of doubles with a sign

gap_plain : (x : Float) (n d a c : ℕ) → HasValue x false a c → gap false n d x ≡ apart (n * 2 ^ 1074) (units_of x * d)
gap_plain nan n d a c h = absurd h
gap_plain (inf s) n d a c h = absurd h
gap_plain (fin true m e) n d a c h = absurd (true≢false h.0)
gap_plain (fin false m e) n d a c h = refl

no_digits : Digits 0
no_digits = record { digits = 0; place = 0; is = refl; small = pow_pos 53 }

-- a number of the other sign is farther than zero, or is zero
across : (A d u v : ℕ) → 0 < d → (0 ≡ u) ⊎ (apart A (u * d) < apart A (0 * d)) → (v ≡ u) ⊎ (apart A (u * d) < A + v * d)
across A d u zero D (inl e) = inl e
across A d u (suc v) D (inl e) =
    let z : u * d ≡ 0 = ap (λ (t : ℕ). t * d) (sym e) ∙ zero-mul d in
    let p : 0 < suc v * d = mul-pos (zero-lt-suc v) D in
    inr (omega arith)
across A d u v D (inr l) = let z : 0 * d ≡ 0 = zero-mul d in inr (omega arith)

pub nearest_of : (x : Float) (n d : ℕ) → 0 < d → T (fits binary64 x) → Near x n d → NearestTo false n d x
nearest_of x n d D f g =
    let u : units_of x ≡ g.size = units_are x false g.size g.is in
    let near : (v : ℕ) → Digits v → (v ≡ units_of x) ⊎ (apart (n * 2 ^ 1074) (units_of x * d) < apart (n * 2 ^ 1074) (v * d)) =
    λ v b. subst (λ (s : ℕ). (v ≡ s) ⊎ (apart (n * 2 ^ 1074) (s * d) < apart (n * 2 ^ 1074) (v * d))) (sym u) (g.near v b) in
    record {
      double = f;
      exact = subst (λ (s : ℕ). HasValue x false s (2 ^ 1074)) (sym u) g.is;
      nearest = λ y t b. subst (λ (z : ℕ). (units_of y ≡ units_of x) ⊎ (z < gap false n d y)) (sym (gap_plain x n d g.size (2 ^ 1074) g.is)) (go near y t b);
    }
  where
    go : ((v : ℕ) → Digits v → (v ≡ units_of x) ⊎ (apart (n * 2 ^ 1074) (units_of x * d) < apart (n * 2 ^ 1074) (v * d)))
        → (y : Float) → T (fits binary64 y) → T (finite y) → (units_of y ≡ units_of x) ⊎ (apart (n * 2 ^ 1074) (units_of x * d) < gap false n d y)
    go near nan t b = absurd b
    go near (inf s) t b = absurd b
    go near (fin false m e) t b = near (units_of (fin false m e)) (digits_of_lem (fin false m e) t)
    go near (fin true m e) t b = across (n * 2 ^ 1074) d (units_of x) (units_of (fin true m e)) D (near 0 no_digits)

-- ---- the minus

gap_turned : (y : Float) (n d : ℕ) → gap true n d y ≡ gap false n d (neg y)
unfolding neg
gap_turned nan n d = refl
gap_turned (inf s) n d = refl
gap_turned (fin true m e) n d = refl
gap_turned (fin false m e) n d = refl

units_turned : (y : Float) → units_of (neg y) ≡ units_of y
unfolding neg
units_turned nan = refl
units_turned (inf s) = refl
units_turned (fin s m e) = refl

finite_turned : (y : Float) → T (finite y) → T (finite (neg y))
unfolding neg
finite_turned nan b = b
finite_turned (inf s) b = b
finite_turned (fin s m e) b = b

turned_back : (x : Float) → neg (neg x) ≡ x
unfolding neg
turned_back nan = refl
turned_back (inf true) = refl
turned_back (inf false) = refl
turned_back (fin true m e) = refl
turned_back (fin false m e) = refl

value_turned : (x : Float) (a c : ℕ) → HasValue x false a c → HasValue (neg x) true a c
unfolding neg
value_turned nan a c h = h
value_turned (inf s) a c h = h
value_turned (fin true m e) a c h = absurd (true≢false h.0)
value_turned (fin false m e) a c h = (refl, h.1)

nearest_turned : (x : Float) (n d : ℕ) → NearestTo false n d x → NearestTo true n d (neg x)
nearest_turned x n d h =
    let u = units_turned x in
    record {
      double = neg-fits binary64 x h.double;
      exact = subst (λ (s : ℕ). HasValue (neg x) true s (2 ^ 1074)) (sym u) (value_turned x (units_of x) (2 ^ 1074) h.exact);
      nearest = λ y t b.
          let g : gap true n d (neg x) ≡ gap false n d x = gap_turned (neg x) n d ∙ ap (gap false n d) (turned_back x) in
          let r : (units_of (neg y) ≡ units_of x) ⊎ (gap false n d x < gap false n d (neg y)) = h.nearest (neg y) (neg-fits binary64 y t) (finite_turned y b) in
          elim r [
            | inl e ↦ inl (sym (units_turned y) ∙ e ∙ sym u)
            | inr l ↦ inr (rw (g, gap_turned y n d) l)
          ];
    }

nearest_signed : (s : Bool) (x : Float) (n d : ℕ) → NearestTo false n d x → NearestTo s n d (signed_by s x)
unfolding signed_by
nearest_signed true x n d h = nearest_turned x n d h
nearest_signed false x n d h = h

-- ---- the digits of a decimal

parts : (w : List ℕ) → is_bare w ≡ true → (length (front w) + length (back w) ≤ 15) × (all (in_base 10) (front w) ≡ true) × (all (in_base 10) (back w) ≡ true)
unfolding is_bare
parts w e =
    let s = shaped (points w) (length (front w)) (length (back w)) in
    let r = both_right s (all (in_base 10) (front w) && all (in_base 10) (back w)) e in (
      shaped_sum (points w) (length (front w)) (length (back w)) (both_left s (all (in_base 10) (front w) && all (in_base 10) (back w)) e),
      both_left (all (in_base 10) (front w)) (all (in_base 10) (back w)) r,
      both_right (all (in_base 10) (front w)) (all (in_base 10) (back w)) r,
    )

joined : (a b : ℕ) → a + b ≤ 15 → 10 ^ a * 10 ^ b ≤ 10 ^ 15
joined a b h = subst (λ (z : ℕ). z ≤ 10 ^ 15) (pow-add 10 a b) (pow-le-pow_right (lit< tt) h)

pub digits_lt : (w : List ℕ) → is_bare w ≡ true → digits_of w < 10 ^ 15
unfolding digits_of
digits_lt w e =
    let p = parts w e in
    let f : suc (number 10 0 (front w)) ≤ 10 ^ length (front w) = front_lt (front w) p.1 in
    rw (number_joined 0 (front w) (back w))
    (lt_of_lt_of_le (number_lt (number 10 0 (front w)) (back w) p.2) (le_trans (mul-le-mul_right (10 ^ length (back w)) f) (joined (length (front w)) (length (back w)) p.0)))

pub places_le : (w : List ℕ) → is_bare w ≡ true → places_of w ≤ 15
places_le w e = let p = (parts w e).0 in omega arith

bare_nearest : (w : List ℕ) → is_bare w ≡ true → NearestTo false (digits_of w) (10 ^ places_of w) (over_tens (digits_of w) (places_of w))
bare_nearest w e =
    let n = digits_of w in
    let k = places_of w in
    let h : n < 10 ^ 15 = digits_lt w e in
    let a : n < 2 ^ 53 = lt_of_lt_of_le h (lit≤ tt) in
    let l : 10 ^ k ≤ 10 ^ 15 = pow-le-pow_right (lit< tt) (places_le w e) in
    let b : 10 ^ k ≤ 2 ^ 53 = le_trans l (lit≤ tt) in
    subst (NearestTo false n (10 ^ k)) (sym (over_tens_is n k (le_of_lt a) b))
    (nearest_of (round binary64 false n (10 ^ k)) n (10 ^ k) (pow_pos_ten k) (round-fits binary64 false n (10 ^ k)) (fraction_near n (10 ^ k) a (pow_pos_ten k) b))

-- ---- for every decimal
pub decimal_nearest : (w : List ℕ) → is_decimal w ≡ true → NearestTo (signed w) (digits_of (bare w)) (10 ^ places_of (bare w)) (decimal_of w)
unfolding is_decimal decimal_of
decimal_nearest w e = nearest_signed (signed w) (over_tens (digits_of (bare w)) (places_of (bare w))) (digits_of (bare w)) (10 ^ places_of (bare w)) (bare_nearest (bare w) e)

-- ---- a second double that is so described is the same one

value_finite : (x : Float) (s : Bool) (a c : ℕ) → HasValue x s a c → T (finite x)
value_finite nan s a c h = h
value_finite (inf t) s a c h = h
value_finite (fin t m e) s a c h = tt

clash : (a b : ℕ) → a < b → b < a → ⊥
clash a b h k = omega arith

same_size : (s : Bool) (n d : ℕ) (x y : Float) → NearestTo s n d x → NearestTo s n d y → units_of x ≡ units_of y
same_size s n d x y h k =
    elim (h.nearest y k.double (value_finite y s (units_of y) (2 ^ 1074) k.exact)) [
      | inl e ↦ sym e
      | inr l ↦ elim (k.nearest x h.double (value_finite x s (units_of x) (2 ^ 1074) h.exact)) [
        | inl e ↦ e
        | inr m ↦ absurd (clash (gap s n d x) (gap s n d y) l m)
      ]
    ]

value_back : (x : Float) (a c : ℕ) → HasValue x true a c → HasValue (neg x) false a c
unfolding neg
value_back nan a c h = h
value_back (inf s) a c h = h
value_back (fin true m e) a c h = (refl, h.1)
value_back (fin false m e) a c h = absurd (true≢false (sym h.0))

alone : (x y : Float) (a : ℕ) → T (fits binary64 x) → T (fits binary64 y) → HasValue x false a (2 ^ 1074) → HasValue y false a (2 ^ 1074) → x ≡ y
alone x y a f g h k =
    units_alone x y f g (plain_value x a (2 ^ 1074) h) (plain_value y a (2 ^ 1074) k) (units_are x false a h ∙ sym (units_are y false a k))

pub nearest_alone : (s : Bool) (n d : ℕ) (x y : Float) → NearestTo s n d x → NearestTo s n d y → x ≡ y
nearest_alone s n d x y h k = go s h.exact (subst (λ (a : ℕ). HasValue y s a (2 ^ 1074)) (sym (same_size s n d x y h k)) k.exact)
  where
    go : (t : Bool) → HasValue x t (units_of x) (2 ^ 1074) → HasValue y t (units_of x) (2 ^ 1074) → x ≡ y
    go false p q = alone x y (units_of x) h.double k.double p q
    go true p q =
        sym (turned_back x)
        ∙ ap neg (alone (neg x) (neg y) (units_of x) (neg-fits binary64 x h.double) (neg-fits binary64 y k.double) (value_back x (units_of x) (2 ^ 1074) p) (value_back y (units_of x) (2 ^ 1074) q))
        ∙ turned_back y
