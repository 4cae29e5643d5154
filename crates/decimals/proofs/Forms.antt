-- "A decimal can never have that form": no bytes are both 16 hex digits and a decimal. Assumes nothing.
use mathlib.Core.Path.{◌≡◌, refl, sym, ap, ◌∙◌}
use mathlib.Core.Bool.{Bool, true, false, cond, ◌&&◌, ◌||◌, true≢false}
use mathlib.Core.List.{List, [], ◌∷◌}
use Prim.Native.Nat.{ℕ, ◌≤◌}
use native.Mathlib.Omega.{arith}
use borrow.Author.Tests.{eqb-true, ne_eqb}
use lib.Dec.{eqb}
use lib.ListN.{length, drop, get_or}
use lib.Ieee.{Float}
use Rattle.fields.specs.Split.{onto, split, all}
use Rattle.fields.specs.Numerals.{digit, in_base, is_bits, double_of}
use Rattle.fields.proofs.Every.{both_left, both_right}
use Rattle.decimals.specs.Decimal.{signed, bare, front, back, points, shaped, is_bare, is_decimal, decimal_of, is_cell, cell_of, cell_read}
use Rattle.decimals.proofs.Reading.{shaped_sum}
use Rattle.std.specs.Prelude.{Some, None}

-- a hex digit is no byte d that is none
other : (d b : ℕ) → in_base 16 d ≡ false → in_base 16 b ≡ true → eqb b d ≡ false
other d b n y = ne_eqb b d (λ e. absurd (let z : ◌≡◌ {A = Bool} true false = sym y ∙ ap (in_base 16) e ∙ n in let q : ◌≡◌ {A = ℕ} 0 1 = cc in omega arith))

-- so hex digits are not cut at it
uncut : (d : ℕ) (w : List ℕ) → in_base 16 d ≡ false → all (in_base 16) w ≡ true → split d w ≡ w ∷ []
unfolding split all onto
uncut d [] n y = refl
uncut d (b ∷ w) n y =
    let h = other d b n (both_left (in_base 16 b) (all (in_base 16) w) y) in
    let ih = uncut d w n (both_right (in_base 16 b) (all (in_base 16) w) y) in
    rw (h, ih)

unsigned : (w : List ℕ) → all (in_base 16) w ≡ true → signed w ≡ false
unfolding signed all digit
unsigned [] y = refl
unsigned (b ∷ w) y = other 0x2d b refl (both_left (in_base 16 b) (all (in_base 16) w) y)

pub never_both : (w : List ℕ) → is_bits w ≡ true → is_decimal w ≡ true → ⊥
unfolding is_bits is_decimal is_bare bare digit
never_both w c d =
    let l : length w ≡ 16 = eqb-true (length w) 16 (both_left (eqb (length w) 16) (all (in_base 16) w) c) in
    let y = both_right (eqb (length w) 16) (all (in_base 16) w) c in
    let e : bare w ≡ w = ap (λ (t : Bool). cond t (drop 1 w) w) (unsigned w y) in
    let s = both_left (shaped (points (bare w)) (length (front (bare w))) (length (back (bare w)))) (all (in_base 10) (front (bare w)) && all (in_base 10) (back (bare w))) d in
    let h = shaped_sum (points (bare w)) (length (front (bare w))) (length (back (bare w))) s in
    let f : length (front (bare w)) ≡ length w = ap (λ (z : List ℕ). length (front z)) e ∙ ap (λ (z : List (List ℕ)). length (get_or z 0 [])) (uncut 0x2e w refl y) in
    omega arith

-- so it does not matter which form is tried first
pub decimal_cell : (w : List ℕ) → is_decimal w ≡ true → (is_cell w ≡ true) × (cell_of w ≡ decimal_of w)
unfolding is_cell cell_of
decimal_cell w d = go (is_bits w) (never_both w)
  where
    go : (t : Bool) → (t ≡ true → is_decimal w ≡ true → ⊥) → ((t || is_decimal w) ≡ true) × (cond t (double_of w) (decimal_of w) ≡ decimal_of w)
    go true h = absurd (h refl d)
    go false h = (d, refl)

-- "a cell of 16 lower-case hex digits keeps its old meaning"
pub bits_cell : (w : List ℕ) → is_bits w ≡ true → (is_cell w ≡ true) × (cell_of w ≡ double_of w)
unfolding is_cell cell_of
bits_cell w e = (rw e, rw e)

cell_meant : (w : List ℕ) (x : Float) → (is_cell w ≡ true) × (cell_of w ≡ x) → cell_read w ≡ Some x
unfolding cell_read
cell_meant w x p = rw (p.0, p.1)

pub decimal_meant : (w : List ℕ) → is_decimal w ≡ true → cell_read w ≡ Some (decimal_of w)
decimal_meant w d = cell_meant w (decimal_of w) (decimal_cell w d)

pub bits_meant : (w : List ℕ) → is_bits w ≡ true → cell_read w ≡ Some (double_of w)
bits_meant w e = cell_meant w (double_of w) (bits_cell w e)

pub neither_refused : (w : List ℕ) → is_bits w ≡ false → is_decimal w ≡ false → cell_read w ≡ None
unfolding cell_read is_cell
neither_refused w e f = rw (e, f)

-- a cell has a byte: a row of n cells is n bytes at least
pub cell_some : (w : List ℕ) → is_cell w ≡ true → 1 ≤ length w
unfolding is_cell is_bits is_decimal is_bare shaped bare signed split
cell_some [] e = absurd (true≢false (sym e))
cell_some (b ∷ w) e = omega arith
