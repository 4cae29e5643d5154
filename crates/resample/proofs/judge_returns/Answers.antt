-- `resample::judge_returns` meets its contract: the product is taken once the sizes are known to be small. Assumes nothing.
use Prim.Native.Nat.{◌≤◌}
use mathlib.Core.Path.{sym, ◌∙◌}
use native.Mathlib.Omega.{arith}
use native.Mathlib.Nat.{mul-le-mul}
use Rattle.lent.proofs.Sizes.{sized_done}
use Rattle.resample.proofs.judge_returns.Goals as goal

pub overflow_mul-return_rows : goal.overflow_mul-return_rows
overflow_mul-return_rows c =
    let s = sized_done _ _ _ (sym c.sized.ensures ∙ c.in_ok-sized.was) in
    let k : c.return_rows.result ≤ 4096 = omega arith in
    omega (arith, mul-le-mul k s.wide)
