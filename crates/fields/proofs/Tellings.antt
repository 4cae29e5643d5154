-- What the readings of bits and of a numeral tell. Assumes nothing.
use Prim.Native.Nat.{ℕ}
use mathlib.Core.Path.{◌≡◌, refl}
use mathlib.Core.Bool.{Bool, true, false, not, cond}
use mathlib.Core.List.{List, [], ◌∷◌}
use Rattle.refusal.specs.Table.{first}
use Rattle.refusal.specs.Telling.{tells}
use Rattle.refusal.specs.declared.Refusal.TheVariants.{MalformedText}
use Rattle.fields.specs.Numerals.{is_bits, double_of, bits_read, bits_outcome, cell_tells, is_numeral, number, numeral_read, numeral_outcome, numeral_tells}
use Rattle.std.specs.Prelude.{Some, None}

-- 0 and the double, or 15
pub bits_tells : (w : List ℕ) → cell_tells (bits_read w) ≡ tells (bits_outcome w) (double_of w)
unfolding bits_read bits_outcome first
bits_tells w = go (is_bits w)
  where
    go : (b : Bool) → cell_tells (cond b (Some (double_of w)) None) ≡ tells (first ((not b, MalformedText) ∷ [])) (double_of w)
    go true = refl
    go false = refl

-- 0 and the number, or 15
pub numeral_tells_lem : (w : List ℕ) → numeral_tells (numeral_read w) ≡ tells (numeral_outcome w) (number 10 0 w)
unfolding numeral_read numeral_outcome first
numeral_tells_lem w = go (is_numeral w)
  where
    go : (b : Bool) → numeral_tells (cond b (Some (number 10 0 w)) None) ≡ tells (first ((not b, MalformedText) ∷ [])) (number 10 0 w)
    go true = refl
    go false = refl
