-- `fractions::measure` meets its contract. Assumes nothing.
use mathlib.Core.Path.{refl}
use native.Mathlib.Omega.{arith}
use lib.Ieee.{nan}
use lib.ListN.{length-set}
use Rattle.fields.proofs.Every.{all_at}
use Rattle.lent.proofs.Fill.{tab_start, tab_step, tab_end}
use Rattle.fractions.specs.Fractions.{in_range, whole_at, left_at, wholes_in}
use Rattle.fractions.proofs.Weights.{keyed_more}
use Rattle.fractions.proofs.measure.Goals as goal

pub loop-i-init : goal.loop-i-init
loop-i-init c = (refl, tab_start _ _, record { same_length = c.requires.same_len; held = λ k h. absurd (omega arith) })

pub parts_of-x-requires : goal.parts_of-x-requires
parts_of-x-requires c = all_at in_range c.args.weights.now nan c.requires.weights_value c.loop-i.i (omega arith)

pub loop-i-preserved : goal.loop-i-preserved
unfolding whole_at left_at
loop-i-preserved c = (
  simp length-set c.loop-i.invariant.0,
  tab_step _ _ _ _ _ _ refl c.loop-i.invariant.1 c.parts_of-x.ensures.whole_is (omega (arith, c.requires.in_bounds)),
  keyed_more _ c.loop-i.i _ _ c.loop-i.invariant.2 (omega (arith, c.requires.same_len)) c.parts_of-x.ensures.left_is,
)

pub returns-clause-wholes_after : goal.returns-clause-wholes_after
unfolding wholes_in
returns-clause-wholes_after c = tab_end _ _ _ _ _ c.loop-i.invariant.1 c.loop-i.auto.i-end c.loop-i-test.false
