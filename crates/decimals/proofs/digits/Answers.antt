-- `decimals::digits` meets its contract. The digits from place i on, after those that are worth m, spell the same. Assumes nothing.
use mathlib.Core.Path.{sym, ◌∙◌}
use native.Mathlib.Omega.{arith}
use lib.ListN.{length}
use Rattle.fields.proofs.Digits.{spelled_end, spelled_no, spelled_on, roomy}
use Rattle.decimals.proofs.digits.Goals as goal

pub returns-then-v-ge10 : goal.returns-then-v-ge10
returns-then-v-ge10 c =
    sym (c.loop-b.invariant.1 ∙ spelled_no _ _ _ c.loop-b.b-index (omega arith) (rw c.digit-v.ensures at c.if-v-ge10.true))

pub overflow_mul-m : goal.overflow_mul-m
overflow_mul-m c =
    let r = roomy c.loop-b.m 10 c.digit-v.result (length c.args.w.now) c.loop-b.b-index (omega arith) c.loop-b.invariant.0 c.if-v-ge10.false in
    omega arith

pub overflow_add-m : goal.overflow_add-m
overflow_add-m c =
    let r = roomy c.loop-b.m 10 c.digit-v.result (length c.args.w.now) c.loop-b.b-index (omega arith) c.loop-b.invariant.0 c.if-v-ge10.false in
    omega arith

pub loop-b-preserved : goal.loop-b-preserved
loop-b-preserved c =
    let r = roomy c.loop-b.m 10 c.digit-v.result (length c.args.w.now) c.loop-b.b-index (omega arith) c.loop-b.invariant.0 c.if-v-ge10.false in
    (r.0, c.loop-b.invariant.1 ∙ rw c.digit-v.ensures (spelled_on 10 c.loop-b.m c.args.w.now c.loop-b.b-index (omega arith) (rw c.digit-v.ensures at c.if-v-ge10.false)))

pub returns : goal.returns
returns c = sym (c.loop-b.invariant.1 ∙ spelled_end _ _ _ c.loop-b.b-index (omega arith))
