-- What the loop of `writing::put_bytes` keeps true. Assumes nothing.
use Prim.Native.Nat.{◌+◌, ◌≤◌}
use mathlib.Core.Path.{◌≡◌}
use lib.ListN.{length}
use lib.Seq.{paste}
use Rattle.writing.proofs.put_bytes.Given as goal

abbrev pub invariant-loop-i : goal.invariant-loop-i
invariant-loop-i l = (l.at + length l.s ≤ length l.initial.out) × (l.i ≤ length l.s) × (length l.out ≡ length l.initial.out) × (l.out ≡ paste l.initial.out l.at l.s l.i)
