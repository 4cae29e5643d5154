-- `recorded::space` is a mebibyte and a half. Assumes nothing.
use lib.ListN.{length-replicate}
use mathlib.Core.Path.{sym}
use Prim.Native.Nat.{ℕ}
use Rattle.recorded.proofs.space.Goals as goal

pub returns : goal.returns
returns c = sym (length-replicate {0} {A = ℕ} 1572864 0)
