-- What `root` means. A double that is finite and has no minus sign is exactly units_of units of 2^-1074 (`exact` of Units.antt). Of an x above zero, of a units, the exact root is √(a * 2^1074) units;
-- `root x` is a double (root_fits), and no double is as near to that root (`nearest`). Assumes nothing.
use Rattle.std.proofs.Common.{◌≡◌, ℕ, zero, suc, ◌+◌, ◌-◌, ◌*◌, ◌/◌, ◌%◌, ◌^◌, ◌<◌, ◌≤◌, true, false, T, pos, sym, refl, ap, ◌∙◌, subst, lt_of_lt_of_le, add-zero, mod-lt, zero-lt-suc, mul_assoc, mul-pos, mul_right_comm, arith, lt→ltb, pow_pos}
use lib.Count.{count_leading_zeros, leading_top}
use lib.Ieee.{Float, nan, inf, fin, binary64, odd, fits, to_bits}
use lib.Ieee.Bits.{of_bits-to_bits, of_bits-fits}
use lib.Ieee.Fits.{nan-fits, inf-fits}
use lib.Ieee.Exact.{odd_sign}
use lib.Ieee.Positive.{positive}
use Rattle.arithmetic.specs.Inner.{worth, Positive, Radicand, Near}
use Rattle.arithmetic.specs.Exact.{units_of, plain}
use Rattle.arithmetic.specs.Root.{kept, root, NearerThan, Nearer}
use Rattle.arithmetic.proofs.Units.{units_are, digits_of_lem, plain_value}
use Rattle.arithmetic.proofs.root.Laws.{lifted, paired_even, paired_odd, worth_subnormal, worth_normal}
use Rattle.arithmetic.proofs.root.At.{kept_near, root_at}
use Rattle.arithmetic.proofs.root.Pattern.{Worth, worth_of_lem, near_least, near_most, pattern_is}
use Rattle.arithmetic.proofs.root.Grid.{nearer}

-- ---- every pattern above zero has a radicand
abbrev Some : ℕ → Type 0
Some a = (m : ℕ) × (k : ℕ) × Radicand a m k

-- from m * 2^e
some : (a m e : ℕ) → a * 2 ^ 1022 ≡ m * 2 ^ e → 2 ^ 52 ≤ m → m < 2 ^ 53 → e ≤ 3067 → Some a
some a m e h l g s = go (e % 2) refl
  where
    go : (r : ℕ) → e % 2 ≡ r → Some a
    go zero z = (m, e / 2, record { value = h ∙ paired_even m e z; least = l; most = omega arith; small = omega arith })
    go (suc r) z = (m + m, e / 2, record { value = h ∙ paired_odd m e (λ y. omega arith); least = omega arith; most = omega arith; small = omega arith })

radicand : (b : ℕ) → Positive b → Some (worth b)
radicand b p = go (b / 2 ^ 52) refl
  where
    t_lt : b % 2 ^ 52 < 2 ^ 52
    t_lt = mod-lt b (pow_pos 52)

    go : (f : ℕ) → b / 2 ^ 52 ≡ f → Some (worth b)
    go zero z =
        let t = b % 2 ^ 52 in
        let t-pos : 0 < t = omega arith in
        let t-in : t < 2 ^ 64 = omega arith in
        let top = leading_top 64 t t-pos t-in in
        let l = count_leading_zeros 64 t in
        let up = lifted t top.0 l top.1 top.2 top.3 t_lt in
        let in-64 : t * 2 ^ (l - 11) < 2 ^ 64 = omega arith in
        some (worth b) ((t * 2 ^ (l - 11)) % 2 ^ 64) (1022 - (l - 11)) (worth_subnormal (b / 2 ^ 52) t (l - 11) z up.2 up.1) (omega arith) (omega arith) (omega arith)
    go (suc j) z = some (worth b) (b % 2 ^ 52 + 2 ^ 52) (b / 2 ^ 52 + 1021) (worth_normal (b / 2 ^ 52) (b % 2 ^ 52) (λ y. omega arith)) (omega arith) (omega arith) (omega (arith, p.below))

-- a value above zero, by its pattern
worth_here : (x : Float) → T (fits binary64 x) → T (positive x) → Worth (to_bits binary64 x) x
worth_here x f p = worth_of_lem (to_bits binary64 x) x (of_bits-to_bits binary64 x f) p

-- ---- the root of a value above zero
record Known (x : Float) (m k q : ℕ) : Type 0 where
  value : units_of x * 2 ^ 1074 ≡ m * 2 ^ 52 * (2 ^ k * 2 ^ k)
  near : Near (m * 2 ^ 52) q
  m_least : 2 ^ 104 ≤ m * 2 ^ 52
  least : 2 ^ 52 ≤ q
  most : q < 2 ^ 53
  small : k ≤ 1533
  is : root x ≡ odd 53 false q k 1074

known : (x : Float) → T (fits binary64 x) → T (positive x) → (m : ℕ) × (k : ℕ) × (q : ℕ) × Known x m k q
known x f p =
    let w = worth_here x f p in
    let a = worth (to_bits binary64 x) in
    let r = radicand (to_bits binary64 x) w.pattern in
    let m = r.0 in
    let k = r.1 in
    let v = a * 2 ^ 1074 in
    let q = kept v k in
    let l : 2 ^ 52 ≤ m = r.2.least in
    let g : m + 2 ≤ 2 ^ 54 = r.2.most in
    let wl : 2 ^ 104 ≤ m * 2 ^ 52 = omega arith in
    let wm : m * 2 ^ 52 < 2 ^ 106 = omega arith in
    let e : v ≡ m * 2 ^ 52 * (2 ^ k * 2 ^ k) = sym (mul_assoc a (2 ^ 1022) (2 ^ 52)) ∙ ap (λ (x : ℕ). x * 2 ^ 52) r.2.value ∙ mul_right_comm m (2 ^ k * 2 ^ k) (2 ^ 52) in
    let n : Near (m * 2 ^ 52) q = kept_near v (m * 2 ^ 52) k e wl wm in (
      m,
      k,
      q,
      record {
        value = ap (λ (n : ℕ). n * 2 ^ 1074) (units_are x false a w.value) ∙ e;
        near = n;
        m_least = wl;
        least = near_least m q n l;
        most = near_most m q n g;
        small = r.2.small;
        is = root_at x a m k q w.value r.2.value l (omega arith) n;
      },
    )

pub root_fits : (x : Float) → T (fits binary64 x) → T (fits binary64 (root x))
unfolding root
root_fits nan f = nan-fits binary64
root_fits (inf true) f = nan-fits binary64
root_fits (inf false) f = inf-fits binary64 false
root_fits (fin s zero e) f = f
root_fits (fin true (suc m) e) f = nan-fits binary64
root_fits (fin false (suc m) e) f =
    let r = known (fin false (suc m) e) f (lt→ltb 0 (suc m) (zero-lt-suc m)) in
    subst (λ (y : Float). T (fits binary64 y)) (pattern_is r.1 r.2 r.3.least r.3.most r.3.small ∙ sym r.3.is) (of_bits-fits binary64 (r.1 * 2 ^ 52 + r.2))

pub root_plain : (x : Float) → T (fits binary64 x) → T (positive x) → T (plain (root x))
root_plain x f p = let r = known x f p in subst (λ (y : Float). T (plain y)) (sym r.3.is) (plain_value (odd 53 false r.2 r.1 1074) (r.2 * 2 ^ r.1) (2 ^ 1074) (odd_sign 53 false r.2 r.1 1074))

root_units : (x : Float) (m k q : ℕ) → Known x m k q → units_of (root x) ≡ q * 2 ^ k
root_units x m k q r = ap units_of r.is ∙ units_are (odd 53 false q k 1074) false (q * 2 ^ k) (odd_sign 53 false q k 1074)

nearest_plain : (x y : Float) → T (fits binary64 x) → T (positive x) → T (fits binary64 y) → T (plain y) → Nearer (units_of x * 2 ^ 1074) (units_of (root x)) (units_of y)
nearest_plain x y f p g n =
    let r = known x f p in
    let s = digits_of_lem y g in
    let u : units_of (root x) ≡ r.2 * 2 ^ r.1 = root_units x r.0 r.1 r.2 r.3 in
    subst (λ (v : ℕ). Nearer v (units_of (root x)) (units_of y)) (sym r.3.value)
    (subst (λ (z : ℕ). Nearer (r.0 * 2 ^ 52 * (2 ^ r.1 * 2 ^ r.1)) z (units_of y)) (sym u)
    (subst (λ (b : ℕ). Nearer (r.0 * 2 ^ 52 * (2 ^ r.1 * 2 ^ r.1)) (r.2 * 2 ^ r.1) b) (sym s.is)
    (nearer (r.0 * 2 ^ 52) r.2 r.1 s.digits s.place r.3.near r.3.m_least r.3.least s.small)))

-- than zero
nearest_zero : (x : Float) → T (fits binary64 x) → T (positive x) → units_of (root x) * units_of (root x) < units_of x * 2 ^ 1074 * 4
unfolding fits
nearest_zero x f p =
    let r = known x f p in
    let v = units_of x * 2 ^ 1074 in
    let u : units_of (root x) ≡ r.2 * 2 ^ r.1 = root_units x r.0 r.1 r.2 r.3 in
    let n : 0 < units_of (root x) = subst (λ (z : ℕ). 0 < z) (sym u) (mul-pos (lt_of_lt_of_le (pow_pos 52) r.3.least) (pow_pos r.1)) in
    subst (λ (z : ℕ). z * z < v * 4) (add-zero (units_of (root x))) ((nearest_plain x (fin false 0 (pos 0)) f p tt tt).below n)

pub nearest : (x y : Float) → T (fits binary64 x) → T (positive x) → T (fits binary64 y) → NearerThan (units_of x * 2 ^ 1074) (units_of (root x)) y
nearest x nan f p g = tt
nearest x (inf s) f p g = tt
nearest x (fin true m e) f p g = nearest_zero x f p
nearest x (fin false m e) f p g = nearest_plain x (fin false m e) f p g tt
