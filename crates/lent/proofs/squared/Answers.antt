-- `lent::squared` meets its contract: the product is taken once the sizes are known to be small. Assumes nothing.
use mathlib.Core.Path.{sym, ◌∙◌}
use native.Mathlib.Omega.{arith}
use native.Mathlib.Nat.{mul-le-mul}
use Rattle.lent.proofs.Sizes.{sized_done}
use Rattle.lent.proofs.squared.Goals as goal

pub overflow_mul-columns : goal.overflow_mul-columns
overflow_mul-columns c =
    let s = sized_done _ _ _ (sym c.sized.ensures ∙ c.in_ok-sized.was) in
    omega (arith, mul-le-mul s.wide s.wide)
