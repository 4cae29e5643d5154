-- `fractions::lowest` meets its contract. Assumes nothing.
use Prim.Native.Nat.{ℕ, ◌%◌, ◌<◌}
use mathlib.Core.Path.{sym, ap, subst}
use lib.Pow.{pow_pos}
use Rattle.fractions.proofs.Shifts.{power}
use Rattle.fractions.proofs.lowest.Goals as goal

pub nonzero_rem-result : goal.nonzero_rem-result
nonzero_rem-result c = subst (λ (x : ℕ). 0 < x) (sym (power c.args.s c.requires)) (pow_pos c.args.s)

pub returns : goal.returns
returns c = ap (λ (x : ℕ). c.args.x % x) (power c.args.s c.requires)
