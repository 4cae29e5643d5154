-- Numbers that can be added. Assumes nothing.
use Prim.Native.Nat.{◌≤◌}
use mathlib.Core.Path.{◌≡◌}
use mathlib.Core.Bool.{false, ◌||◌}
use borrow.Author.Tests.{ltb-false}
use lib.Dec.{ltb}
use Rattle.lent.proofs.Sums.{no_or}
use Rattle.ledger.specs.Ledger.{most_added, beyond}
use Rattle.ledger.specs.declared.Position.{Position}
use Rattle.ledger.specs.declared.Lot.{Lot}

-- what can be added
pub beyond_no : (p : Position) (h : Lot) → beyond p h ≡ false → (p.total ≤ most_added) × (h.millionths ≤ most_added) × (p.jobs ≤ most_added)
unfolding beyond
beyond_no p h q =
    let a = no_or (ltb most_added p.total) (ltb most_added h.millionths || ltb most_added p.jobs) q in
    let b = no_or (ltb most_added h.millionths) (ltb most_added p.jobs) a.1 in
    (ltb-false most_added p.total a.0, ltb-false most_added h.millionths b.0, ltb-false most_added p.jobs b.1)
