-- `linkage::next_near` meets its contract. The invariant: those before j are too far off. Assumes nothing.
use borrow.Author.Rules.{rules}
use native.Mathlib.Omega.{arith}
use native.Mathlib.Nat.{le_antisymm}
use Prim.Native.Nat.{◌+◌}
use mathlib.Core.Path.{◌≡◌, subst}
use Rattle.linkage.specs.Inner.{FarTo}
use Rattle.linkage.proofs.Packed.{far_none, far_more}
use Rattle.linkage.proofs.next_near.Goals as goal

pub loop-j-init : goal.loop-j-init
loop-j-init c = (search rules, c.requires.1, far_none c.args.row.now c.args.slots.now c.args.limit c.args.from)

pub overflow_add-j : goal.overflow_add-j
overflow_add-j c = omega (arith, c.loop-j.invariant.1, c.requires.0)

pub is_far_at-requires : goal.is_far_at-requires
is_far_at-requires c =
    let p = c.requires.2 c.loop-j.j c.loop-j.invariant.0 (omega arith) in
    (omega arith, p.0, p.1)

pub returns-then-not-is_far_at : goal.returns-then-not-is_far_at
returns-then-not-is_far_at c = (c.loop-j.invariant.0, c.loop-j.invariant.1, c.loop-j.invariant.2)

pub overflow_add-j-in-loop-j : goal.overflow_add-j-in-loop-j
overflow_add-j-in-loop-j c = omega arith

pub is_far_at-requires-in-loop-j : goal.is_far_at-requires-in-loop-j
is_far_at-requires-in-loop-j c =
    let p = c.requires.2 (c.loop-j.j + 1) (omega (arith, c.loop-j.invariant.0)) (omega arith) in
    (omega arith, p.0, p.1)

pub overflow_add-result : goal.overflow_add-result
overflow_add-result c = omega arith

pub returns-then-not-is_far_at-2 : goal.returns-then-not-is_far_at-2
returns-then-not-is_far_at-2 c = (omega (arith, c.loop-j.invariant.0), omega arith, far_more c.args.row.now c.args.slots.now c.args.limit c.args.from c.loop-j.j c.loop-j.invariant.2 (c.is_far_at.ensures c.if-not-is_far_at.false))

pub overflow_add-j-in-loop-j-2 : goal.overflow_add-j-in-loop-j-2
overflow_add-j-in-loop-j-2 c = omega arith

pub loop-j-smaller : goal.loop-j-smaller
loop-j-smaller c = omega arith

pub loop-j-preserved : goal.loop-j-preserved
loop-j-preserved c =
    let e : c.loop-j.j + 1 + 1 ≡ c.loop-j.j + 2 = omega arith in (
      omega (arith, c.loop-j.invariant.0),
      omega arith,
      subst (FarTo c.args.row.now c.args.slots.now c.args.limit c.args.from) e (far_more c.args.row.now c.args.slots.now c.args.limit c.args.from (c.loop-j.j + 1) (far_more c.args.row.now c.args.slots.now c.args.limit c.args.from c.loop-j.j c.loop-j.invariant.2 (c.is_far_at.ensures c.if-not-is_far_at.false)) (c.is_far_at-in-loop-j.ensures c.if-not-is_far_at-2.false)),
    )

pub is_far_at-requires-then-j-m : goal.is_far_at-requires-then-j-m
is_far_at-requires-then-j-m c =
    let p = c.requires.2 c.loop-j.j c.loop-j.invariant.0 c.if-j-m.true in
    (omega arith, p.0, p.1)

pub returns-then-not-is_far_at-3 : goal.returns-then-not-is_far_at-3
returns-then-not-is_far_at-3 c = (c.loop-j.invariant.0, c.loop-j.invariant.1, c.loop-j.invariant.2)

pub returns-else-not-is_far_at-3 : goal.returns-else-not-is_far_at-3
returns-else-not-is_far_at-3 c =
    let e : c.loop-j.j + 1 ≡ c.args.m = omega (arith, c.if-j-m.true, c.loop-j-test.false) in (
      omega (arith, c.loop-j.invariant.0),
      omega arith,
      subst (FarTo c.args.row.now c.args.slots.now c.args.limit c.args.from) e (far_more c.args.row.now c.args.slots.now c.args.limit c.args.from c.loop-j.j c.loop-j.invariant.2 (c.is_far_at-then-j-m.ensures c.if-not-is_far_at-3.false)),
    )

pub returns-else-j-m : goal.returns-else-j-m
returns-else-j-m c =
    let e : c.loop-j.j ≡ c.args.m = le_antisymm c.loop-j.invariant.1 c.if-j-m.false in
    (omega arith, omega arith, subst (FarTo c.args.row.now c.args.slots.now c.args.limit c.args.from) e c.loop-j.invariant.2)
