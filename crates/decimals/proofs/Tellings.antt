-- What the readings of a decimal and of a cell tell: 0 and the double, or 15. Assumes nothing.
use Prim.Native.Nat.{ℕ}
use mathlib.Core.Path.{◌≡◌, refl}
use mathlib.Core.Bool.{Bool, true, false, not, cond}
use mathlib.Core.List.{List, [], ◌∷◌}
use lib.Ieee.{Float}
use Rattle.refusal.specs.Table.{first}
use Rattle.refusal.specs.Telling.{tells}
use Rattle.refusal.specs.declared.Refusal.TheVariants.{MalformedText}
use Rattle.fields.specs.Numerals.{cell_tells}
use Rattle.decimals.specs.Decimal.{is_decimal, decimal_of, decimal_read, decimal_outcome, is_cell, cell_of, cell_read, cell_outcome}
use Rattle.std.specs.Prelude.{Some, None}

told : (x : Float) (b : Bool) → cell_tells (cond b (Some x) None) ≡ tells (first ((not b, MalformedText) ∷ [])) x
unfolding first
told x true = refl
told x false = refl

pub decimal_tells : (w : List ℕ) → cell_tells (decimal_read w) ≡ tells (decimal_outcome w) (decimal_of w)
unfolding decimal_read decimal_outcome
decimal_tells w = told (decimal_of w) (is_decimal w)

pub cell_tells_lem : (w : List ℕ) → cell_tells (cell_read w) ≡ tells (cell_outcome w) (cell_of w)
unfolding cell_read cell_outcome
cell_tells_lem w = told (cell_of w) (is_cell w)
