-- Digits read from the first on: what the loop over them needs. Assumes nothing.
use Prim.Native.Nat.{ℕ, suc, ◌+◌, ◌-◌, ◌*◌, ◌^◌, ◌<◌, ◌≤◌}
use mathlib.Core.Path.{◌≡◌, refl, ap, ◌∙◌}
use mathlib.Core.Bool.{Bool, true, false, cond}
use mathlib.Core.List.{List}
use native.Mathlib.Nat.{mul-le-mul_left, mul-le-mul_right, pow-suc, pow-le-pow_right}
use native.Mathlib.Numerals.{add-one, unary_clauses}
use native.Mathlib.Omega.{arith}
use borrow.Author.Tests.{lt-ltb, le-ltb, lt-leb, le-leb, eq-eqb, ne_eqb}
use lib.Dec.{lit<}
use lib.ListN.{length, get_or, drop, drop_of_length-le}
use lib.Seq.{drop-cons}
use lib.Ieee.{Float, binary64, of_bits}
use Rattle.fields.specs.Split.{all}
use Rattle.fields.specs.Numerals.{digit, in_base, number, is_bits, double_of, bits_read, is_numeral, numeral_read}
use Rattle.fields.specs.Inner.{spelled_after}
use Rattle.std.specs.Prelude.{Some, None}
use Rattle.fields.specs.Outcomes.{Cell, Numeral}

module _ (base n : ℕ) (w : List ℕ) (i : ℕ) where
  pub spelled_end : length w ≤ i → spelled_after base n (drop i w) ≡ Some n
  unfolding spelled_after number all
  spelled_end h = rw (drop_of_length-le w h)

  pub spelled_no : i < length w → base ≤ digit (get_or w i 0) → spelled_after base n (drop i w) ≡ None
  unfolding spelled_after all
  spelled_no h g = rw (drop-cons w i 0 h, le-ltb (digit (get_or w i 0)) base g)

  pub spelled_on : i < length w → digit (get_or w i 0) < base → spelled_after base n (drop i w) ≡ spelled_after base (n * base + digit (get_or w i 0)) (drop (i + 1) w)
  unfolding spelled_after number all
  spelled_on h g = rw (add-one, drop-cons w i 0 h, lt-ltb (digit (get_or w i 0)) base g)

power_above : (b k : ℕ) → 0 < b → 1 ≤ b ^ k
power_above b k h = let y : b ^ 0 ≤ b ^ k = pow-le-pow_right h (omega arith) in simp unary_clauses at y

-- one digit more: the digits from place i on still have room
pub roomy : (n base d l i : ℕ) → i < l → (n + 1) * base ^ (l - i) ≤ 2 ^ 64 → d < base → ((n * base + d + 1) * base ^ (l - (i + 1)) ≤ 2 ^ 64) × (n * base + d < 2 ^ 64)
roomy n base d l i g h b =
    let k : ℕ = l - (i + 1) in
    let e : l - i ≡ suc k = omega arith in
    let q : base ^ (l - i) ≡ base ^ k * base = ap (λ (z : ℕ). base ^ z) e ∙ pow-suc base k in
    let r : (n + 1) * (base ^ k * base) ≤ 2 ^ 64 = rw q at h in
    let a : n * base + d + 1 ≤ (n + 1) * base = omega arith in
    let m : (n * base + d + 1) * base ^ k ≤ (n + 1) * base * base ^ k = mul-le-mul_right (base ^ k) a in
    let z : 1 ≤ base ^ k = power_above base k (omega arith) in
    let o : (n * base + d + 1) * 1 ≤ (n * base + d + 1) * base ^ k = mul-le-mul_left (n * base + d + 1) z in
    (omega arith, omega arith)

-- up to 15 digits of base 10 have room
pub room_of_ten : (l : ℕ) → l ≤ 15 → (0 + 1) * 10 ^ l ≤ 2 ^ 64
room_of_ten l h = let q : 10 ^ l ≤ 10 ^ 15 = pow-le-pow_right (lit< tt) h in omega arith

-- ---- what is read, by the length and the digits

-- the double of the bits that a numeral spells
abbrev pub cell_spelled : Numeral → Cell
cell_spelled None = None
cell_spelled (Some b) = Some (of_bits binary64 b)

pub bits_other : (w : List ℕ) → (length w ≡ 16 → ⊥) → bits_read w ≡ None
unfolding bits_read is_bits
bits_other w h = rw (ne_eqb (length w) 16 h)

pub bits_spelled : (w : List ℕ) → length w ≡ 16 → bits_read w ≡ cell_spelled (spelled_after 16 0 w)
unfolding bits_read is_bits spelled_after
bits_spelled w h = rw (eq-eqb (length w) 16 h) (go (all (in_base 16) w))
  where
    go : (t : Bool) → cond t (Some (double_of w)) None ≡ cell_spelled (cond t (Some (number 16 0 w)) None)
    go true = refl
    go false = refl

-- what a call that reads bits tells of them
pub bits_no : (w : List ℕ) → bits_read w ≡ None → is_bits w ≡ false
unfolding bits_read
bits_no w e = go (is_bits w) e
  where
    go : (t : Bool) → cond t (Some (double_of w)) None ≡ None → t ≡ false
    go true h = absurd (let z : ◌≡◌ {A = ℕ} 0 1 = cc in omega arith)
    go false h = refl

pub bits_yes : (w : List ℕ) (v : Float) → bits_read w ≡ Some v → (is_bits w ≡ true) × (v ≡ double_of w)
unfolding bits_read
bits_yes w v e = go (is_bits w) e
  where
    go : (t : Bool) → cond t (Some (double_of w)) None ≡ Some v → (t ≡ true) × (v ≡ double_of w)
    go true h = (refl, cc)
    go false h = absurd (let z : ◌≡◌ {A = ℕ} 0 1 = cc in omega arith)

pub numeral_none : (w : List ℕ) → length w < 1 → numeral_read w ≡ None
unfolding numeral_read is_numeral
numeral_none w h = rw (lt-leb 1 (length w) h)

pub numeral_long : (w : List ℕ) → 1 ≤ length w → 9 < length w → numeral_read w ≡ None
unfolding numeral_read is_numeral
numeral_long w g h = rw (le-leb 1 (length w) g, lt-leb (length w) 9 h)

pub numeral_spelled : (w : List ℕ) → 1 ≤ length w → length w ≤ 9 → numeral_read w ≡ spelled_after 10 0 w
unfolding numeral_read is_numeral spelled_after
numeral_spelled w g h = rw (le-leb 1 (length w) g, le-leb (length w) 9 h)
