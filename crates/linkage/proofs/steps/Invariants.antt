-- What the loop of `linkage::steps` keeps true. Assumes nothing.
use Prim.Native.Nat.{◌-◌, ◌*◌, ◌≤◌}
use mathlib.Core.Path.{◌≡◌}
use lib.ListN.{length, take, drop}
use Rattle.linkage.specs.Merge.{state_at}
use Rattle.linkage.specs.Pairs.{pairs_at}
use Rattle.linkage.proofs.Stepped.{Shown}
use Rattle.linkage.proofs.steps.Given as goal

abbrev pub invariant-loop-k : goal.invariant-loop-k
invariant-loop-k l =
    (l.k ≤ l.n - 1) × (length l.rows ≡ length l.initial.rows) × (length l.slots ≡ 64)
    × Shown l.form l.n (state_at l.method l.n l.xs l.k) l.d l.ids (take (l.n - l.k) l.slots) l.sizes (take (2 * l.k) l.rows)
    × (drop (2 * l.k) l.rows ≡ drop (2 * l.k) l.initial.rows) × (l.pairs ≡ pairs_at l.method l.n l.xs l.k) × (length l.d ≡ length l.initial.d)
