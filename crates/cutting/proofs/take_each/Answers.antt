-- `cutting::take_each` meets its contract. Assumes nothing.
use Prim.Native.Nat.{ℕ, ◌<◌}
use mathlib.Core.Path.{sym, subst}
use native.Mathlib.Omega.{arith}
use Rattle.cutting.proofs.Steps.{way_begins, way_goes_on, way_ends}
use Rattle.cutting.proofs.take_each.Goals as goal

pub loop-b-init : goal.loop-b-init
loop-b-init c = way_begins c.args.piece.now c.args.feed c.args.table.now c.args.held.now c.requires.held_bound

pub take_byte-at-requires : goal.take_byte-at-requires
take_byte-at-requires c = record {
  held_bound = c.loop-b.invariant.short;
  in_bounds = subst (λ (n : ℕ). 4357 < n) (sym c.loop-b.invariant.same_held) c.requires.in_bounds;
}

pub loop-b-preserved : goal.loop-b-preserved
loop-b-preserved c = way_goes_on c.args.piece.now c.args.feed c.args.table.now c.args.held.now c.loop-b.b-index c.loop-b.at c.loop-b.table c.loop-b.held _ _ _ c.loop-b.invariant c.loop-b-test.true c.take_byte-at.ensures.held_bound_2 c.take_byte-at.ensures.running c.take_byte-at.auto.table c.take_byte-at.auto.held

pub returns : goal.returns
returns c = record {
  held_bound_2 = c.loop-b.invariant.short;
  running = way_ends c.args.piece.now c.args.feed c.args.table.now c.args.held.now c.loop-b.b-index c.loop-b.at c.loop-b.table c.loop-b.held c.loop-b.invariant (omega arith);
}
