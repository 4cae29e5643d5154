-- The double nearest 1 / m, for m from 1 to 64: one test that antt computes at each m, and the laws that read it.
-- Assumes nothing.
use Rattle.std.proofs.Common.{◌≡◌, ℕ, zero, suc, ◌+◌, ◌-◌, ◌*◌, ◌/◌, ◌^◌, ◌<◌, ◌≤◌, Bool, true, false, ◌&&◌, ◌||◌, T, eqb, ltb, leb, ◌⊎◌, List, [], ◌∷◌, get_or, pos, sym, refl, ap, subst, inl, inr, mul-le-mul_right, eq-or-lt_of_le, mul-le-mul_left, arith, lit<, eqb→eq, ltb→lt, leb→le, pow_mono}
use native.Mathlib.Nat.{mul-lt-mul_of_pos_left, two-pow-succ}
use native.Mathlib.Decide.{dec_lt, ℕ_discrete}
use lib.Count.{count_trailing_zeros}
use lib.Ieee.{Float, nan, inf, fin, binary64, round, units, odd, size, span, climb, of_bits, of_fields, mul, div, of_int, fits}
use lib.Ieee.Fits.{and_l, and_r, div-fits}
use lib.Ieee.Scale.{finite}
use lib.Ieee.Positive.{positive}
use Rattle.arithmetic.specs.Constants.{unit}
use Rattle.arithmetic.specs.Arithmetic.{one_over}
use Rattle.arithmetic.specs.Exact.{units_of, plain, Plain, halves, apart, off, Nearest}
use Rattle.arithmetic.proofs.Units.{Digits, digits_of_lem, apart_at, exact, units_alone}
use Rattle.arithmetic.proofs.Halves.{halved_plain, halved_units}

-- ---- tests
every : List Bool → Bool
every [] = true
every (b ∷ bs) = b && every bs

every_at : (bs : List Bool) → T (every bs) → (i : ℕ) → T (get_or bs i true)
unfolding every
every_at [] t i = tt
every_at (b ∷ bs) t zero = and_l b (every bs) t
every_at (b ∷ bs) t (suc i) = every_at bs (and_r b (every bs) t) i

-- a test passes from 1 to M
through : (ℕ → Bool) → ℕ → Bool
through f zero = true
through f (suc M) = f (suc M) && through f M

through_at : (f : ℕ → Bool) (M : ℕ) → T (through f M) → (m : ℕ) → 1 ≤ m → m ≤ M → T (f m)
unfolding through
through_at f zero t m l h = absurd (omega arith)
through_at f (suc M) t m l h =
    elim (eq-or-lt_of_le h) [
      | inl e ↦ subst (λ (x : ℕ). T (f x)) (sym e) (and_l (f (suc M)) (through f M) t)
      | inr lt ↦ through_at f M (and_r (f (suc M)) (through f M) t) m l (omega arith)
    ]

-- the place of the last of its 53 digits
place : ℕ → ℕ
unfolding size span climb
place m = 1022 - size (m - 1)

-- of 1 / m, which is g units: q digits' worth at place j. Twice the distance from 1 / m is less than a place, all taken m times
tests : ℕ → ℕ → ℕ → ℕ → List Bool
tests m g j q =
    eqb g (q * 2 ^ j)
    ∷ (ltb (2 ^ 52) q || eqb (m * g) (2 ^ 1074))
    ∷ ltb q (2 ^ 53)
    ∷ ltb (2 * (m * g)) (2 * 2 ^ 1074 + m * 2 ^ j)
    ∷ ltb (2 * 2 ^ 1074) (2 * (m * g) + m * 2 ^ j)
    ∷ leb (m * 2 ^ j) (2 ^ 1022)
    ∷ leb 63 j
    ∷ []

digits : ℕ → ℕ
digits m = units_of (one_over m) / 2 ^ place m

good : ℕ → Bool
unfolding every tests place digits
good m = positive (one_over m) && every (tests m (units_of (one_over m)) (place m) (digits m))

table : T (through good 64)
unfolding through good every tests place digits one_over div of_int of_bits of_fields odd count_trailing_zeros round units size span climb
table = tt

record Good (m q j : ℕ) : Type 0 where
  above : T (positive (one_over m))
  is : units_of (one_over m) ≡ q * 2 ^ j
  many : T (ltb (2 ^ 52) q || eqb (m * units_of (one_over m)) (2 ^ 1074))
  few : q < 2 ^ 53
  high : 2 * (m * units_of (one_over m)) < 2 * 2 ^ 1074 + m * 2 ^ j
  low : 2 * 2 ^ 1074 < 2 * (m * units_of (one_over m)) + m * 2 ^ j
  fine : m * 2 ^ j ≤ 2 ^ 1022
  far : 63 ≤ j

good_at : (m : ℕ) → 1 ≤ m → m ≤ 64 → Good m (digits m) (place m)
unfolding good tests
good_at m l h =
    let g = units_of (one_over m) in
    let j = place m in
    let q = digits m in
    let t = through_at good 64 table m l h in
    let e = every_at (tests m g j q) (and_r (positive (one_over m)) (every (tests m g j q)) t) in
    record {
      above = and_l (positive (one_over m)) (every (tests m g j q)) t;
      is = eqb→eq g (q * 2 ^ j) (e 0);
      many = e 1;
      few = ltb→lt q (2 ^ 53) (e 2);
      high = ltb→lt (2 * (m * g)) (2 * 2 ^ 1074 + m * 2 ^ j) (e 3);
      low = ltb→lt (2 * 2 ^ 1074) (2 * (m * g) + m * 2 ^ j) (e 4);
      fine = leb→le (m * 2 ^ j) (2 ^ 1022) (e 5);
      far = leb→le 63 j (e 6);
    }

positive_plain : (x : Float) → T (positive x) → T (plain x)
positive_plain nan p = p
positive_plain (inf s) p = p
positive_plain (fin true m e) p = p
positive_plain (fin false m e) p = tt

one_over_is_plain : (m : ℕ) → 1 ≤ m → m ≤ 64 → T (plain (one_over m))
one_over_is_plain m l h = positive_plain (one_over m) (good_at m l h).above

-- ---- m times it is within 2 ^ -53 of one
half_of : (A X S Q : ℕ) → 2 * A < 2 * X + S → 2 * X < 2 * A + S → S ≤ Q + Q → (A ≤ X + Q) × (X ≤ A + Q)
half_of A X S Q a b c = (omega arith, omega arith)

pub one_over_total : (m : ℕ) → 1 ≤ m → m ≤ 64 → (m * units_of (one_over m) ≤ 2 ^ 1074 + 2 ^ 1021) × (2 ^ 1074 ≤ m * units_of (one_over m) + 2 ^ 1021)
one_over_total m l h =
    let g = good_at m l h in
    half_of (m * units_of (one_over m)) (2 ^ 1074) (m * 2 ^ place m) (2 ^ 1021) g.high g.low g.fine

-- ---- no double is nearer
-- y lies s away from g at least, or is g
Away : ℕ → ℕ → ℕ → Type 0
Away y g s = (y ≡ g) ⊎ ((y + s ≤ g) ⊎ (g + s ≤ y))

on_grid : (r q s : ℕ) → Away (r * s) (q * s) s
unfolding Away
on_grid r q s =
    elim (dec_lt r q) [
      | yes lt ↦ inr (inl (omega (arith, mul-le-mul_right s lt)))
      | no ge ↦ elim (dec_lt q r) [
        | yes lt ↦ inr (inr (omega (arith, mul-le-mul_right s lt)))
        | no le ↦ let e : r ≡ q = omega arith in inl (rw e)
      ]
    ]

finer : (p i q j N : ℕ) → p < N + N → N < q → i < j → p * 2 ^ i + 2 ^ j ≤ q * 2 ^ j
finer p i q j N a b c =
    let x : p * 2 ^ i ≤ (N + N) * 2 ^ i = mul-le-mul_right (2 ^ i) (omega arith) in
    let y : N * 2 ^ suc i ≤ N * 2 ^ j = mul-le-mul_left N (pow_mono c) in
    let z : N * 2 ^ suc i ≡ N * (2 ^ i + 2 ^ i) = ap (λ (t : ℕ). N * t) (two-pow-succ i) in
    let w : suc N * 2 ^ j ≤ q * 2 ^ j = mul-le-mul_right (2 ^ j) b in
    omega arith

away : (p i q j N : ℕ) → p < N + N → N < q → Away (p * 2 ^ i) (q * 2 ^ j) (2 ^ j)
unfolding Away
away p i q j N a b =
    elim (dec_lt i j) [
      | yes lt ↦ inr (inl (finer p i q j N a b lt))
      | no ge ↦ rw (apart_at p j i (omega arith)) (on_grid (p * 2 ^ (i - j)) q (2 ^ j))
    ]

farther : (m g y s X : ℕ) → Away y g s → (y ≡ g → ⊥) → 2 * (m * g) < 2 * X + m * s → 2 * X < 2 * (m * g) + m * s → apart (m * g) X < apart (m * y) X
unfolding Away
farther m g y s X (inl e) n a b = absurd (n e)
farther m g y s X (inr (inl h)) n a b = omega (arith, mul-le-mul_left m h)
farther m g y s X (inr (inr h)) n a b = omega (arith, mul-le-mul_left m h)

-- where m * g is X
missed : (m g y X : ℕ) → 1 ≤ m → m * g ≡ X → (y ≡ g → ⊥) → apart (m * g) X < apart (m * y) X
missed m g y X l e n =
    elim (dec_lt y g) [
      | yes lt ↦ omega (arith, mul-lt-mul_of_pos_left lt l)
      | no ge ↦ let more : g < y = omega arith in omega (arith, mul-lt-mul_of_pos_left more l)
    ]

either : (a b : Bool) → T (a || b) → T a ⊎ T b
either true b t = inl tt
either false b t = inr t

plain_off : (m : ℕ) (x : Float) → T (plain x) → off m x ≡ apart (m * units_of x) (2 ^ 1074)
plain_off m nan p = absurd p
plain_off m (inf s) p = absurd p
plain_off m (fin true a e) p = absurd p
plain_off m (fin false a e) p = refl

farther_plain : (m : ℕ) → 1 ≤ m → m ≤ 64 → (u : ℕ) → Digits u → (u ≡ units_of (one_over m) → ⊥) → apart (m * units_of (one_over m)) (2 ^ 1074) < apart (m * u) (2 ^ 1074)
farther_plain m l h u d n =
    let g = good_at m l h in
    elim (either (ltb (2 ^ 52) (digits m)) (eqb (m * units_of (one_over m)) (2 ^ 1074)) g.many) [
      | inl t ↦ farther m (units_of (one_over m)) u (2 ^ place m) (2 ^ 1074) (rw (g.is, d.is) (away d.digits d.place (digits m) (place m) (2 ^ 52) d.small (ltb→lt (2 ^ 52) (digits m) t))) n g.high g.low
      | inr t ↦ missed m (units_of (one_over m)) u (2 ^ 1074) l (eqb→eq (m * units_of (one_over m)) (2 ^ 1074) t) n
    ]

below_zero : (A X Q B : ℕ) → A ≤ X + Q → X ≤ A + Q → Q < X → apart A X < B + X
below_zero A X Q B a b c = omega arith

one_over_fits : (m : ℕ) → T (fits binary64 (one_over m))
unfolding one_over
one_over_fits m = div-fits binary64 unit (of_int binary64 (pos m))

pub one_over_nearest : (m : ℕ) → 1 ≤ m → m ≤ 64 → Nearest m (one_over m)
one_over_nearest m l h = record {
  exact = record { double = one_over_fits m; value = exact (one_over m) (one_over_fits m) (one_over_is_plain m l h) };
  nearest = λ y f n. subst (λ (z : ℕ). (y ≡ one_over m) ⊎ (z < off m y)) (sym (plain_off m (one_over m) (one_over_is_plain m l h))) (go y f n);
}
  where
    go : (y : Float) → T (fits binary64 y) → T (finite y) → (y ≡ one_over m) ⊎ (apart (m * units_of (one_over m)) (2 ^ 1074) < off m y)
    go nan f n = absurd n
    go (inf s) f n = absurd n
    go (fin true a e) f n = let t = one_over_total m l h in inr (below_zero (m * units_of (one_over m)) (2 ^ 1074) (2 ^ 1021) (m * units_of (fin true a e)) t.0 t.1 (lit< tt))
    go (fin false a e) f n =
        let y = fin false a e in
        elim (ℕ_discrete (units_of y) (units_of (one_over m))) [
          | yes q ↦ inl (units_alone y (one_over m) f (one_over_fits m) tt (one_over_is_plain m l h) q)
          | no q ↦ inr (farther_plain m l h (units_of y) (digits_of_lem y f) q)
        ]

-- ---- times a share
one_over_digits : (m : ℕ) → 1 ≤ m → m ≤ 64 → Digits (units_of (one_over m))
one_over_digits m l h = let g = good_at m l h in record { digits = digits m; place = place m; is = g.is; small = g.few }

free : (d m : ℕ) → d ≤ 63 → (l : 1 ≤ m) → (h : m ≤ 64) → d ≤ (one_over_digits m l h).place
unfolding one_over_digits
free d m b l h = omega (arith, (good_at m l h).far)

pub share_plain : (d m : ℕ) → d ≤ 63 → 1 ≤ m → m ≤ 64 → Plain (mul binary64 (halves d) (one_over m))
share_plain d m b l h = halved_plain d (omega arith) (one_over_nearest m l h).exact (one_over_digits m l h) (free d m b l h)

pub share_units : (d m : ℕ) → d ≤ 63 → 1 ≤ m → m ≤ 64 → units_of (mul binary64 (halves d) (one_over m)) * 2 ^ d ≡ units_of (one_over m)
share_units d m b l h = halved_units d (omega arith) (one_over_nearest m l h).exact (one_over_digits m l h) (free d m b l h)
