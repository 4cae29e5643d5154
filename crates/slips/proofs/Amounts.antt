-- Numbers in a line: how the calls that read them end. Assumes nothing.
use Prim.Native.Nat.{ℕ}
use mathlib.Core.Path.{◌≡◌, refl, sym, ap, ◌∙◌}
use mathlib.Core.Bool.{Bool, true, false, not, cond, ◌&&◌, ◌||◌}
use mathlib.Core.List.{List, [], ◌∷◌}
use native.Mathlib.Omega.{arith}
use borrow.Author.Tests.{ltb-true, lt-ltb, ne_eqb}
use lib.Dec.{ltb, eqb}
use lib.ListN.{length, get_or}
use lib.Ieee.{Float}
use Rattle.fields.specs.Numerals.{is_bits, is_numeral, number, numeral_read, bits_read}
use Rattle.fields.proofs.Digits.{bits_no, bits_yes}
use Rattle.fields.proofs.Every.{both_left, both_right}
use Rattle.slips.specs.Slips.{is_trim, is_amount}
use Rattle.slips.specs.Inner.{is_padded, trim_read, amount_read}
use Rattle.std.specs.Prelude.{Some, None}
use Rattle.fields.specs.Outcomes.{Cell, Numeral}

-- ---- what a reading says of its test

read_no : (t : Bool) (n : ℕ) → cond t (Some n) None ≡ None → t ≡ false
read_no true n h = absurd (let z : ◌≡◌ {A = ℕ} 0 1 = cc in omega arith)
read_no false n h = refl

read_yes : (t : Bool) (n v : ℕ) → cond t (Some n) None ≡ Some v → (t ≡ true) × (v ≡ n)
read_yes true n v h = (refl, cc)
read_yes false n v h = absurd (let z : ◌≡◌ {A = ℕ} 0 1 = cc in omega arith)

one_fails : (a b : Bool) → b ≡ false → (a && b) ≡ false
one_fails true b e = e
one_fails false b e = refl

one_holds : (a b : Bool) → b ≡ true → (a && b) ≡ a
one_holds true b e = e
one_holds false b e = refl

module _ (w : List ℕ) where
  -- ---- a 0 in front of other digits

  pub trim_padded : is_padded w ≡ true → None ≡ trim_read w
  unfolding is_padded trim_read is_trim
  trim_padded e =
      let long = ltb-true 1 (length w) (both_left (ltb 1 (length w)) _ e) in
      let several : eqb (length w) 1 ≡ false = ne_eqb (length w) 1 (λ h. omega arith) in
      let zero = both_right (ltb 1 (length w)) _ e in
      let no : (eqb (length w) 1 || not (eqb (get_or w 0 0) 48)) ≡ false = rw (several, zero) in
      sym (ap (λ (t : Bool). cond t (Some (number 10 0 w)) None) (one_fails (is_numeral w) _ no))

-- a number with no such 0 is trim
plain_trim : (w : List ℕ) → is_padded w ≡ false → is_trim w ≡ is_numeral w
unfolding is_padded is_trim is_numeral
plain_trim [] e = refl
plain_trim (x ∷ []) e = one_holds (is_numeral (x ∷ [])) true refl
plain_trim (x ∷ y ∷ w) e =
    let several : eqb (length (x ∷ y ∷ w)) 1 ≡ false = ne_eqb (length (x ∷ y ∷ w)) 1 (λ h. omega arith) in
    let long : ltb 1 (length (x ∷ y ∷ w)) ≡ true = lt-ltb 1 (length (x ∷ y ∷ w)) (omega arith) in
    let first : eqb x 48 ≡ false = sym (ap (λ (t : Bool). t && eqb x 48) long) ∙ e in
    let yes : (eqb (length (x ∷ y ∷ w)) 1 || not (eqb x 48)) ≡ true = rw (several, first) in
    one_holds (is_numeral (x ∷ y ∷ w)) _ yes

module _ (w : List ℕ) where
  pub trim_plain : is_padded w ≡ false → numeral_read w ≡ trim_read w
  unfolding numeral_read trim_read
  trim_plain e = sym (ap (λ (t : Bool). cond t (Some (number 10 0 w)) None) (plain_trim w e))

  -- ---- the tests that reading makes

  module _ (read : Numeral) (r : read ≡ amount_read w) where
    pub amount_no : read ≡ None → false ≡ is_amount w
    unfolding amount_read
    amount_no e = sym (read_no (is_amount w) (number 10 0 w) (sym r ∙ e))

    pub amount_yes : (v : ℕ) → read ≡ Some v → true ≡ is_amount w
    unfolding amount_read
    amount_yes v e = sym (read_yes (is_amount w) (number 10 0 w) v (sym r ∙ e)).0

  module _ (read : Cell) (r : read ≡ bits_read w) where
    pub no_bits : read ≡ None → false ≡ is_bits w
    no_bits e = sym (bits_no w (sym r ∙ e))

    pub some_bits : (v : Float) → read ≡ Some v → true ≡ is_bits w
    some_bits v e = sym (bits_yes w v (sym r ∙ e)).0
