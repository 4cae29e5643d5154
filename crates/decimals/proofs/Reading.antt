-- What the code tells of a cell: each test and each call, in the order in which they are made. Assumes nothing.
use Prim.Native.Nat.{ℕ, suc, ◌+◌, ◌-◌, ◌*◌, ◌^◌, ◌<◌, ◌≤◌}
use mathlib.Core.Path.{◌≡◌, refl, sym, ap, subst}
use mathlib.Core.Bool.{Bool, true, false, cond}
use mathlib.Core.List.{List, [], ◌∷◌, ◌++◌}
use native.Mathlib.Nat.{lt_of_lt_of_le, mul_assoc, mul-le-mul_right, one-mul, mul-one, pow-succ', pow-le-pow_right}
use Rattle.std.proofs.lemmas.Nat.{pow-add}
use native.Mathlib.Omega.{arith}
use borrow.Author.Tests.{ltb-true, leb-true, ne_eqb}
use lib.Dec.{lit<, leb}
use lib.ListN.{length, get_or, drop, take}
use lib.Seq.{take_all}
use lib.Ieee.{Float}
use Rattle.fields.specs.Split.{all}
use Rattle.fields.specs.Numerals.{digit, in_base, number, bits_read}
use Rattle.fields.specs.Inner.{spelled_after}
use Rattle.fields.proofs.Every.{both_left, both_right, four_yes}
use Rattle.fields.proofs.Digits.{bits_no, bits_yes}
use Rattle.decimals.specs.Decimal.{signed, bare, front, back, points, shaped, is_bare, digits_of, places_of, over_tens, signed_by, is_decimal, decimal_of, decimal_read, is_cell, cell_of, cell_read}
use Rattle.decimals.specs.Inner.{fraction_read, bare_read}
use Rattle.std.specs.Prelude.{Some, None}

-- ---- the minus

pub signed_front : (w : List ℕ) → get_or w 0 0 ≡ 45 → signed w ≡ true
unfolding signed
signed_front w e = rw e

pub signed_other : (w : List ℕ) → (get_or w 0 0 ≡ 45 → ⊥) → signed w ≡ false
unfolding signed
signed_other w n = ne_eqb (get_or w 0 0) 45 n

pub signed_none : (w : List ℕ) → length w < 1 → signed w ≡ false
unfolding signed
signed_none [] h = refl
signed_none (b ∷ w) h = absurd (omega arith)

pub bare_front : (w : List ℕ) → 1 ≤ length w → get_or w 0 0 ≡ 45 → take (length w - 1) (drop 1 w) ≡ bare w
unfolding bare
bare_front [] h e = absurd (omega arith)
bare_front (b ∷ w) h e = rw (signed_front (b ∷ w) e) (take_all (suc (length w) - 1) w (omega arith))

pub bare_other : (w : List ℕ) → (get_or w 0 0 ≡ 45 → ⊥) → w ≡ bare w
unfolding bare
bare_other w n = rw (signed_other w n) refl

pub bare_empty : (w : List ℕ) → length w < 1 → w ≡ bare w
unfolding bare
bare_empty w h = rw (signed_none w h) refl

-- ---- the lengths

module _ (p a b : ℕ) where
  pub shaped_sum : shaped p a b ≡ true → a + b ≤ 15
  unfolding shaped
  shaped_sum e = leb-true (a + b) 15 (four_yes (leb p 1) (leb 1 a) (leb p b) (leb (a + b) 15) e).3

-- ---- the digits

pub spelled_none : (n : ℕ) (w : List ℕ) → spelled_after 10 n w ≡ None → all (in_base 10) w ≡ false
unfolding spelled_after
spelled_none n w e = go (all (in_base 10) w) e
  where
    go : (t : Bool) → cond t (Some (number 10 n w)) None ≡ None → t ≡ false
    go true h = absurd (let z : ◌≡◌ {A = ℕ} 0 1 = cc in omega arith)
    go false h = refl

pub spelled_some : (n m : ℕ) (w : List ℕ) → spelled_after 10 n w ≡ Some m → (all (in_base 10) w ≡ true) × (m ≡ number 10 n w)
unfolding spelled_after
spelled_some n m w e = go (all (in_base 10) w) e
  where
    go : (t : Bool) → cond t (Some (number 10 n w)) None ≡ Some m → (t ≡ true) × (m ≡ number 10 n w)
    go true h = (refl, cc)
    go false h = absurd (let z : ◌≡◌ {A = ℕ} 0 1 = cc in omega arith)

-- digits before the point, then those after it
pub number_joined : (n : ℕ) (v w : List ℕ) → number 10 n (v ++ w) ≡ number 10 (number 10 n v) w
unfolding number
number_joined n [] w = refl
number_joined n (b ∷ v) w = number_joined (n * 10 + digit b) v w

one_more : (n d L : ℕ) → d < 10 → suc (n * 10 + d) * L ≤ suc n * (10 * L)
one_more n d L h = subst (λ (z : ℕ). suc (n * 10 + d) * L ≤ z) (mul_assoc (suc n) 10 L) (mul-le-mul_right L (omega arith))

-- digits after digits worth n are worth less than (n + 1) * 10^length
pub number_lt : (n : ℕ) (w : List ℕ) → all (in_base 10) w ≡ true → number 10 n w < suc n * 10 ^ length w
unfolding number all
number_lt n [] e = subst (λ (z : ℕ). n < z) (sym (mul-one (suc n))) (omega arith)
number_lt n (b ∷ w) e =
    let d = digit b in
    let h : d < 10 = ltb-true d 10 (both_left (in_base 10 b) (all (in_base 10) w) e) in
    let ih = number_lt (n * 10 + d) w (both_right (in_base 10 b) (all (in_base 10) w) e) in
    subst (λ (z : ℕ). number 10 (n * 10 + d) w < suc n * z) (sym (pow-succ' 10 (length w))) (lt_of_lt_of_le ih (one_more n d (10 ^ length w) h))

pub front_lt : (w : List ℕ) → all (in_base 10) w ≡ true → number 10 0 w < 10 ^ length w
front_lt w e = subst (λ (z : ℕ). number 10 0 w < z) (one-mul (10 ^ length w)) (number_lt 0 w e)

-- digits worth under 10^(15 - l) leave room for l more
pub room_for : (n l : ℕ) → l ≤ 15 → n < 10 ^ (15 - l) → (n + 1) * 10 ^ l ≤ 2 ^ 64
room_for n l h g =
    let m : (n + 1) * 10 ^ l ≤ 10 ^ (15 - l) * 10 ^ l = mul-le-mul_right (10 ^ l) (omega arith) in
    let p : 10 ^ (15 - l + l) ≡ 10 ^ (15 - l) * 10 ^ l = pow-add 10 (15 - l) l in
    let e : 15 - l + l ≡ 15 = omega arith in
    let q : 10 ^ 15 ≡ 10 ^ (15 - l) * 10 ^ l = rw e at p in
    omega arith

pub pow_pos_ten : (k : ℕ) → 0 < 10 ^ k
pow_pos_ten k =
    let h : 0 ≤ k = omega arith in
    let q : 10 ^ 0 ≤ 10 ^ k = pow-le-pow_right (lit< tt) h in
    omega arith

-- what is worth less than a digits leaves room for b more
pub room_after : (n a b : ℕ) → a + b ≤ 15 → n < 10 ^ a → n < 10 ^ (15 - b)
room_after n a b h l = let f : a ≤ 15 - b = omega arith in lt_of_lt_of_le l (pow-le-pow_right (lit< tt) f)

-- ---- the calls

pub fraction_none : (n : ℕ) (w : List ℕ) → spelled_after 10 n w ≡ None → fraction_read n w ≡ None
unfolding fraction_read
fraction_none n w e = rw (spelled_none n w e)

pub fraction_some : (n m : ℕ) (w : List ℕ) → spelled_after 10 n w ≡ Some m → fraction_read n w ≡ Some (over_tens m (length w))
unfolding fraction_read
fraction_some n m w e =
    let s = spelled_some n m w e in
    rw s.0 (ap (λ (z : ℕ). Some (over_tens z (length w))) (sym s.1))

-- the lengths of what was cut out
pub seen : (w : List ℕ) (r t : Bool) (p : ℕ) (a b : List ℕ) → r ≡ shaped p (length a) (length b) → p ≡ points w → a ≡ front w → b ≡ back w → r ≡ t → shaped (points w) (length (front w)) (length (back w)) ≡ t
seen w r t p a b e x y z k = rw (← x, ← y, ← z, ← e) k

module _ (w : List ℕ) where
  pub bare_shape : shaped (points w) (length (front w)) (length (back w)) ≡ false → bare_read w ≡ None
  unfolding bare_read is_bare
  bare_shape e = rw e

  pub bare_none : shaped (points w) (length (front w)) (length (back w)) ≡ true → spelled_after 10 0 (front w) ≡ None → bare_read w ≡ None
  unfolding bare_read is_bare
  bare_none e f = rw (e, spelled_none 0 (front w) f)

  pub bare_some : (n : ℕ) → shaped (points w) (length (front w)) (length (back w)) ≡ true → spelled_after 10 0 (front w) ≡ Some n → bare_read w ≡ fraction_read n (back w)
  unfolding bare_read is_bare digits_of fraction_read
  bare_some n e f =
      let s = spelled_some 0 n (front w) f in
      rw (e, s.0, s.1, number_joined 0 (front w) (back w))

  pub decimal_none : bare_read (bare w) ≡ None → decimal_read w ≡ None
  unfolding bare_read decimal_read is_decimal
  decimal_none e = go (is_bare (bare w)) e
    where
      go : (t : Bool) → cond t (Some (over_tens (digits_of (bare w)) (places_of (bare w)))) None ≡ None → cond t (Some (decimal_of w)) None ≡ None
      go true h = absurd (let z : ◌≡◌ {A = ℕ} 0 1 = cc in omega arith)
      go false h = refl

  pub decimal_some : (x : Float) → bare_read (bare w) ≡ Some x → decimal_read w ≡ Some (signed_by (signed w) x)
  unfolding bare_read decimal_read is_decimal decimal_of
  decimal_some x e = go (is_bare (bare w)) e
    where
      go : (t : Bool) → cond t (Some (over_tens (digits_of (bare w)) (places_of (bare w)))) None ≡ Some x
          → cond t (Some (signed_by (signed w) (over_tens (digits_of (bare w)) (places_of (bare w))))) None ≡ Some (signed_by (signed w) x)
      go true h = let z : over_tens (digits_of (bare w)) (places_of (bare w)) ≡ x = cc in ap (λ (v : Float). Some (signed_by (signed w) v)) z
      go false h = absurd (let z : ◌≡◌ {A = ℕ} 0 1 = cc in omega arith)

  pub cell_other : bits_read w ≡ None → cell_read w ≡ decimal_read w
  unfolding cell_read is_cell cell_of decimal_read
  cell_other e = rw (bits_no w e)

  pub cell_bits : (v : Float) → bits_read w ≡ Some v → cell_read w ≡ Some v
  unfolding cell_read is_cell cell_of
  cell_bits v e = let s = bits_yes w v e in rw s.0 (ap Some (sym s.1))

  -- ---- what a call that reads a cell tells of it

  pub cell_no : cell_read w ≡ None → is_cell w ≡ false
  unfolding cell_read
  cell_no e = go (is_cell w) e
    where
      go : (t : Bool) → cond t (Some (cell_of w)) None ≡ None → t ≡ false
      go true h = absurd (let z : ◌≡◌ {A = ℕ} 0 1 = cc in omega arith)
      go false h = refl

  pub cell_yes : (v : Float) → cell_read w ≡ Some v → (is_cell w ≡ true) × (v ≡ cell_of w)
  unfolding cell_read
  cell_yes v e = go (is_cell w) e
    where
      go : (t : Bool) → cond t (Some (cell_of w)) None ≡ Some v → (t ≡ true) × (v ≡ cell_of w)
      go true h = (refl, cc)
      go false h = absurd (let z : ◌≡◌ {A = ℕ} 0 1 = cc in omega arith)
