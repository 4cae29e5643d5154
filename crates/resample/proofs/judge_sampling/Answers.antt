-- `resample::judge_sampling` meets its contract: the product is taken once the sizes are known to be small. Assumes nothing.
use Prim.Native.Nat.{◌≤◌}
use mathlib.Core.Path.{sym, ◌∙◌}
use native.Mathlib.Omega.{arith}
use native.Mathlib.Nat.{mul-le-mul}
use Rattle.lent.proofs.Sizes.{sized_done}
use Rattle.resample.proofs.Laws.{kept_le}
use Rattle.resample.proofs.judge_sampling.Goals as goal

pub overflow_mul-kept_rows : goal.overflow_mul-kept_rows
overflow_mul-kept_rows c =
    let s = sized_done _ _ _ (sym c.sized.ensures ∙ c.in_ok-sized.was) in
    let k : c.kept_rows.result ≤ 4096 = omega (arith, kept_le c.args.rows c.args.step) in
    omega (arith, mul-le-mul k s.wide)
