-- `keys::word` meets its contract. Assumes nothing.
use native.Mathlib.Omega.{arith}
use mathlib.Core.Path.{◌≡◌, refl, ap, ◌∙◌}
use Rattle.keys.specs.Keys.{word_from}
use Rattle.keys.proofs.Words.{word_more, word_room}
use Rattle.keys.proofs.word.Goals as goal

pub loop-k-init : goal.loop-k-init
unfolding word_from
loop-k-init c = (omega arith, refl)

pub overflow_mul-w : goal.overflow_mul-w
overflow_mul-w c = omega (arith, word_room c.loop-k.w 0 c.loop-k.k c.loop-k.invariant.0 c.loop-k-test.true (omega arith))

pub overflow_add-w : goal.overflow_add-w
overflow_add-w c = omega (arith, word_room c.loop-k.w c.byte.result c.loop-k.k c.loop-k.invariant.0 c.loop-k-test.true c.byte.ensures.upper_bound)

pub loop-k-preserved : goal.loop-k-preserved
loop-k-preserved c = let r = word_room c.loop-k.w c.byte.result c.loop-k.k c.loop-k.invariant.0 c.loop-k-test.true c.byte.ensures.upper_bound in (r.1, word_more c.args.s.now c.args.from c.loop-k.k c.loop-k.w c.byte.result c.loop-k.invariant.1 c.byte.ensures.value)

pub returns : goal.returns
returns c = let e : c.loop-k.k ≡ 8 = omega arith in c.loop-k.invariant.1 ∙ ap (word_from c.args.s.now c.args.from) e
