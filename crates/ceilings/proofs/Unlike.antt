-- When ceilings are neither none nor one for each asset. Assumes nothing.
use Prim.Native.Nat.{ℕ}
use mathlib.Core.Path.{◌≡◌, sym, ap}
use mathlib.Core.Bool.{Bool, false, not, ◌&&◌}
use mathlib.Core.List.{List}
use native.Mathlib.Omega.{arith}
use borrow.Author.Tests.{lt-ltb, le-ltb}
use lib.Dec.{eqb}
use lib.ListN.{length}
use Rattle.ceilings.specs.Figures.{are_unlike}

module _ (cs : List ℕ) (n : ℕ) where
  pub unlike_some : (length cs ≡ 0 → ⊥) → not (eqb (length cs) n) ≡ are_unlike cs n
  unfolding are_unlike
  unlike_some h = sym (ap (λ (t : Bool). t && not (eqb (length cs) n)) (lt-ltb 0 (length cs) (omega arith)))

  pub unlike_none : length cs ≡ 0 → false ≡ are_unlike cs n
  unfolding are_unlike
  unlike_none h = sym (ap (λ (t : Bool). t && not (eqb (length cs) n)) (le-ltb 0 (length cs) (omega arith)))
