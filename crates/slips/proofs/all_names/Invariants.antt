-- What the loops of `slips::all_names` keep true, and what falls. Assumes nothing.
use Prim.Native.Nat.{◌+◌, ◌-◌, ◌≤◌}
use mathlib.Core.Path.{◌≡◌}
use lib.ListN.{length, drop}
use Rattle.fields.specs.Split.{split, all}
use Rattle.names.specs.Names.{is_name}
use Rattle.slips.specs.Inner.{names_from}
use Rattle.slips.proofs.all_names.Given as goal

abbrev pub invariant-loop-at : goal.invariant-loop-at
invariant-loop-at l = (l.at ≤ length l.line + 1) × (all is_name (drop 1 (split 9 l.line)) ≡ names_from l.line l.at)

abbrev pub decreases-loop-at : goal.decreases-loop-at
decreases-loop-at l = length l.line - l.at
