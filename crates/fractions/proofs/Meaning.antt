-- What the whole part and the fraction of a weight are, over whole numbers: together exactly a million times its units. Assumes nothing.
use Prim.Native.Nat.{ℕ, ◌+◌, ◌*◌, ◌/◌, ◌^◌, ◌≤◌, ◌<◌}
use mathlib.Core.Path.{◌≡◌, sym}
use mathlib.Core.Bool.{true, false, true≢false}
use mathlib.Core.List.{List}
use native.Mathlib.Nat.{div-add-mod', mod-lt, div-mul-le_self, le_of_mul-le-mul_right, mul-le-mul_right, le_trans, le_of_eq, mul_comm}
use borrow.Author.Tests.{leb-true, eqb-true}
use lib.Dec.{lit≤}
use lib.Pow.{pow_pos}
use lib.Ieee.{Float, nan, inf, fin}
use lib.ListN.{length, get_or}
use Rattle.arithmetic.specs.Exact.{units_of}
use Rattle.fields.specs.Split.{all}
use Rattle.fields.proofs.Every.{all_at}
use Rattle.fractions.specs.Fractions.{in_range, whole_part, left_over, whole_at}

-- the whole part and the fraction are the weight, a million times, exactly; and the fraction is below one
pub exact_parts : (w : Float) → whole_part w * 2 ^ 1074 + left_over w ≡ units_of w * 1000000
unfolding whole_part left_over
exact_parts w = div-add-mod' (units_of w * 1000000) (2 ^ 1074)

pub fraction_below : (w : Float) → left_over w < 2 ^ 1074
unfolding left_over
fraction_below w = mod-lt (units_of w * 1000000) (pow_pos 1074)

-- 2^1074 is d here: no tactic sees so large a number
at_most : (d a : ℕ) → 0 < d → a ≤ d → a * 1000000 / d ≤ 1000000
at_most d a p l = le_of_mul-le-mul_right (le_trans (div-mul-le_self (a * 1000000) d) (le_trans (mul-le-mul_right 1000000 l) (le_of_eq (mul_comm d 1000000)))) p

-- a weight in range is at most one
units_in : (w : Float) → in_range w ≡ true → units_of w ≤ 2 ^ 1074
unfolding in_range
units_in nan e = absurd (true≢false (sym e))
units_in (inf s) e = absurd (true≢false (sym e))
units_in (fin true m k) e = le_trans (le_of_eq (eqb-true (units_of (fin true m k)) 0 e)) (lit≤ tt)
units_in (fin false m k) e = leb-true (units_of (fin false m k)) (2 ^ 1074) e

-- so its whole part is at most 1,000,000
pub whole_most : (ws : List Float) → all in_range ws ≡ true → (i : ℕ) → i < length ws → whole_at ws i ≤ 1000000
unfolding whole_at whole_part
whole_most ws r i h = at_most (2 ^ 1074) (units_of (get_or ws i nan)) (pow_pos 1074) (units_in (get_or ws i nan) (all_at in_range ws nan r i h))
