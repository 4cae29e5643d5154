-- What the loop of `ceilings::cut_total` keeps true. Assumes nothing.
use Prim.Native.Nat.{◌-◌, ◌*◌, ◌≤◌}
use mathlib.Core.Path.{◌≡◌}
use lib.ListN.{get_or}
use Rattle.lent.specs.Count.{upto}
use Rattle.ceilings.specs.Ceilings.{kept_at}
use Rattle.ceilings.proofs.cut_total.Given as goal

abbrev pub invariant-loop-i : goal.invariant-loop-i
invariant-loop-i l = (l.cut ≡ upto (λ k. get_or l.parts k 0 - kept_at l.parts l.ceilings k) l.i) × (l.cut ≤ 1000000 * l.i)
