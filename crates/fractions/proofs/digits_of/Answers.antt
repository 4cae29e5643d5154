-- `fractions::digits_of` meets its contract. Assumes nothing.
use Prim.Native.Nat.{◌/◌, ◌%◌, ◌^◌}
use native.Mathlib.Omega.{arith}
use Rattle.fractions.proofs.Shifts.{digits_zero, digits_some}
use Rattle.fractions.proofs.digits_of.Goals as goal

pub returns-then-f-eq0 : goal.returns-then-f-eq0
returns-then-f-eq0 c =
    record { small = omega arith; low = omega arith; value = digits_zero (c.args.b / 2 ^ 52) (c.args.b % 2 ^ 52) c.if-f-eq0.true }

pub returns : goal.returns
returns c =
    record { small = omega arith; low = omega (arith, c.requires); value = digits_some (c.args.b / 2 ^ 52) (c.args.b % 2 ^ 52) c.if-f-eq0.false }
