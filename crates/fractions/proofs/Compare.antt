-- Two fractions compare by top, then by low. Assumes nothing.
use Prim.Native.Nat.{ℕ, ◌+◌, ◌*◌, ◌/◌, ◌%◌, ◌^◌, ◌≤◌, ◌<◌}
use mathlib.Core.Path.{◌≡◌, sym, ap, ◌∙◌, subst}
use mathlib.Core.Bool.{Bool, true, false, ◌&&◌, ◌||◌}
use mathlib.Core.Logic.{◌⊎◌, inl, inr, ⊎_elim}
use native.Mathlib.Nat.{mul_assoc, mul-le-mul, mul-lt-mul_of_pos_right, lt_of_lt_of_le, le_trans, le_of_eq}
use native.Mathlib.Omega.{arith}
use borrow.Author.Tests.{ltb-true, ltb-false, lt-ltb, le-ltb, eq-eqb, ne_eqb}
use lib.Dec.{ltb, eqb}
use lib.Pow.{pow_pos, pow_mono, pow-add}
use Rattle.std.proofs.lemmas.Bool.Decides.{nat_tests}
use Rattle.std.specs.Ordering.{partial_lt}
use Rattle.lent.proofs.Laws.{either, same_or_not}
use Rattle.fractions.specs.Inner.{value_of, Normal}
use Rattle.fractions.specs.declared.Fraction.{Fraction}
use Rattle.fractions.specs.contracts.FractionPartialOrd.TheImpl.{partial_cmp-value}

-- a has at most 73 digits, b 73, and b's place is higher
place_less : (a b p q : ℕ) → a < 2 ^ 73 → 2 ^ 72 ≤ b → p < q → a * 2 ^ p < b * 2 ^ q
place_less a b p q ha hb h =
    let up : 2 ^ 73 * 2 ^ p ≡ 2 ^ 72 * 2 ^ (1 + p) = mul_assoc (2 ^ 72) 2 (2 ^ p) ∙ ap (λ (x : ℕ). 2 ^ 72 * x) (sym (pow-add 2 1 p)) in
    lt_of_lt_of_le (mul-lt-mul_of_pos_right ha (pow_pos p)) (le_trans (le_of_eq up) (mul-le-mul hb (pow_mono {i = 1 + p} {j = q} (omega arith))))

apart : (a b : ℕ) → (a ≡ b → ⊥) → (a < b) ⊎ (b < a)
apart a b d = ⊎_elim (λ e. inl (ltb-true a b e)) (λ e. inr (let q = ltb-false a b e in omega arith)) (either (ltb a b))

top_less : (x y : Fraction) → Normal x → Normal y → x.top < y.top → value_of x < value_of y
top_less x y n m h =
    let a = n.low_in in
    let b = m.low_in in
    ⊎_elim
    (λ (e : ltb (x.top / 2 ^ 41) (y.top / 2 ^ 41) ≡ true).
    let l : x.top / 2 ^ 41 < y.top / 2 ^ 41 = ltb-true _ _ e in
    let f : 2 ^ 40 ≤ y.top % 2 ^ 41 = m.full (omega arith) in
    place_less (x.top % 2 ^ 41 * 2 ^ 32 + x.low) (y.top % 2 ^ 41 * 2 ^ 32 + y.low) (x.top / 2 ^ 41) (y.top / 2 ^ 41) (omega arith) (omega arith) l)
    (λ e.
    let l : y.top / 2 ^ 41 ≤ x.top / 2 ^ 41 = ltb-false _ _ e in
    let q : x.top / 2 ^ 41 ≡ y.top / 2 ^ 41 = omega arith in
    let k : x.top % 2 ^ 41 * 2 ^ 32 + x.low < y.top % 2 ^ 41 * 2 ^ 32 + y.low = omega arith in
    subst (λ (p : ℕ). value_of x < (y.top % 2 ^ 41 * 2 ^ 32 + y.low) * 2 ^ p) q (mul-lt-mul_of_pos_right k (pow_pos (x.top / 2 ^ 41))))
    (either (ltb (x.top / 2 ^ 41) (y.top / 2 ^ 41)))

low_less : (x y : Fraction) → x.top ≡ y.top → x.low < y.low → value_of x < value_of y
low_less x y e h =
    let k : x.top % 2 ^ 41 * 2 ^ 32 + x.low < x.top % 2 ^ 41 * 2 ^ 32 + y.low = omega arith in
    subst (λ (t : ℕ). value_of x < (t % 2 ^ 41 * 2 ^ 32 + y.low) * 2 ^ (t / 2 ^ 41)) e (mul-lt-mul_of_pos_right k (pow_pos (x.top / 2 ^ 41)))

-- what `is_sooner` says: b comes before a where it is larger, or where they are equal and it is the lower
said_larger : (a b : ℕ) (lower : Bool) → a < b → true ≡ (ltb a b || (eqb b a && lower))
said_larger a b lower h = sym (ap (λ (t : Bool). t || (eqb b a && lower)) (lt-ltb a b h))

said_smaller : (a b : ℕ) (lower : Bool) → b < a → false ≡ (ltb a b || (eqb b a && lower))
said_smaller a b lower h = sym (ap (λ (t : Bool). t || (eqb b a && lower)) (le-ltb a b (omega arith)) ∙ ap (λ (t : Bool). t && lower) (ne_eqb b a (λ e. omega arith)))

said_equal : (a b : ℕ) (lower : Bool) → a ≡ b → lower ≡ (ltb a b || (eqb b a && lower))
said_equal a b lower h = sym (ap (λ (t : Bool). t || (eqb b a && lower)) (le-ltb a b (omega arith)) ∙ ap (λ (t : Bool). t && lower) (eq-eqb b a (sym h)))

-- which of the tests decides
only_top : (a b d e : ℕ) (lower : Bool) → (a ≡ b → ⊥) → ((ltb b a || (eqb b a && ltb e d)) || ((eqb a b && eqb d e) && lower)) ≡ ltb b a
only_top a b d e lower h = grind (arith, nat_tests)

only_low : (a b d e : ℕ) (lower : Bool) → a ≡ b → (d ≡ e → ⊥) → ((ltb b a || (eqb b a && ltb e d)) || ((eqb a b && eqb d e) && lower)) ≡ ltb e d
only_low a b d e lower h g = grind (arith, nat_tests)

only_lower : (a b d e : ℕ) (lower : Bool) → a ≡ b → d ≡ e → ((ltb b a || (eqb b a && ltb e d)) || ((eqb a b && eqb d e) && lower)) ≡ lower
only_lower a b d e lower h g = grind (arith, nat_tests)

module _ (x y : Fraction) (lower : Bool) where
  by_top : Normal x → Normal y → (x.top ≡ y.top → ⊥) → ltb y.top x.top ≡ (ltb (value_of y) (value_of x) || (eqb (value_of x) (value_of y) && lower))
  by_top n m d =
      ⊎_elim
      (λ h. le-ltb y.top x.top (omega arith) ∙ said_smaller (value_of y) (value_of x) lower (top_less x y n m h))
      (λ h. lt-ltb y.top x.top h ∙ said_larger (value_of y) (value_of x) lower (top_less y x m n h))
      (apart x.top y.top d)

  by_low : x.top ≡ y.top → (x.low ≡ y.low → ⊥) → ltb y.low x.low ≡ (ltb (value_of y) (value_of x) || (eqb (value_of x) (value_of y) && lower))
  by_low e d =
      ⊎_elim
      (λ h. le-ltb y.low x.low (omega arith) ∙ said_smaller (value_of y) (value_of x) lower (low_less x y e h))
      (λ h. lt-ltb y.low x.low h ∙ said_larger (value_of y) (value_of x) lower (low_less y x (sym e) h))
      (apart x.low y.low d)

  by_number : x.top ≡ y.top → x.low ≡ y.low → lower ≡ (ltb (value_of y) (value_of x) || (eqb (value_of x) (value_of y) && lower))
  by_number e d =
      said_equal (value_of y) (value_of x) lower
      (ap (λ (t : ℕ). (t % 2 ^ 41 * 2 ^ 32 + y.low) * 2 ^ (t / 2 ^ 41)) (sym e) ∙ ap (λ (l : ℕ). (x.top % 2 ^ 41 * 2 ^ 32 + l) * 2 ^ (x.top / 2 ^ 41)) (sym d))

  -- the derived `<` and `==` say the same
  pub before : partial_lt partial_cmp-value.it y x ≡ (ltb y.top x.top || (eqb y.top x.top && ltb y.low x.low))
  before = grind (arith, nat_tests)

  pub said : Normal x → Normal y → ((ltb y.top x.top || (eqb y.top x.top && ltb y.low x.low)) || ((eqb x.top y.top && eqb x.low y.low) && lower)) ≡ (ltb (value_of y) (value_of x) || (eqb (value_of x) (value_of y) && lower))
  said n m =
      ⊎_elim
      (λ t. ⊎_elim (λ l. only_lower x.top y.top x.low y.low lower t l ∙ by_number t l) (λ l. only_low x.top y.top x.low y.low lower t l ∙ by_low t l) (same_or_not x.low y.low))
      (λ t. only_top x.top y.top x.low y.low lower t ∙ by_top n m t)
      (same_or_not x.top y.top)
