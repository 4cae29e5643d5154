-- `linkage::at` meets its contract. Assumes nothing.
use native.Mathlib.Omega.{arith}
use Prim.Native.Nat.{ℕ}
use mathlib.Core.Path.{ap}
use lib.ListN.{get_or}
use lib.Ieee.{nan}
use Rattle.triangle.proofs.Within.{within}
use Rattle.linkage.proofs.at.Goals as goal

pub offset_bounds-d-k : goal.offset_bounds-d-k
offset_bounds-d-k c = omega (arith, (within _ _ _ _ _ _ c.requires.0 c.requires.1 c.requires.2 c.requires.3 c.requires.5 c.place-k.ensures).1)

pub bounds-d-k : goal.bounds-d-k
bounds-d-k c = (within _ _ _ _ _ _ c.requires.0 c.requires.1 c.requires.2 c.requires.3 c.requires.5 c.place-k.ensures).0

pub returns : goal.returns
returns c = ap (λ (k : ℕ). get_or c.args.d.now k nan) c.place-k.ensures
