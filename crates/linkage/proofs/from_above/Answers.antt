-- `linkage::from_above` meets its contract. Assumes nothing.
use Prim.Native.Nat.{◌-◌, ◌*◌}
use mathlib.Core.Path.{refl, sym, ◌∙◌}
use Rattle.linkage.specs.Inner.{tried_of}
use Rattle.linkage.proofs.Laws.{over_parts}
use Rattle.linkage.proofs.Rows.{rows_length}
use Rattle.linkage.proofs.Forms.{told_mirrored, told_upper, start_triangle}
use Rattle.linkage.proofs.from_above.Goals as goal

pub returns-then-not-above : goal.returns-then-not-above
unfolding tried_of
returns-then-not-above c = rw (sym (told_mirrored c.args.n c.args.xs.now c.args.d.now _ c.requires.0 c.requires.1 c.requires.3 c.above.ensures.value) ∙ c.if-not-above.true) (refl, refl)

pub steps-pairs-requires : goal.steps-pairs-requires
steps-pairs-requires c = (
  c.requires.0,
  start_triangle c.args.n c.args.xs.now _ c.args.d.now c.requires.0 c.type_inv.xs (sym (told_mirrored c.args.n c.args.xs.now c.args.d.now _ c.requires.0 c.requires.1 c.requires.3 c.above.ensures.value) ∙ c.if-not-above.false) (told_upper c.args.n c.args.xs.now _ c.args.d.now c.requires.0 c.requires.1 c.requires.3 c.above.ensures.d_after) c.requires.3,
  c.requires.2,
)

pub returns : goal.returns
unfolding tried_of
returns c =
    rw (sym (told_mirrored c.args.n c.args.xs.now c.args.d.now _ c.requires.0 c.requires.1 c.requires.3 c.above.ensures.value) ∙ c.if-not-above.false, ← c.steps-pairs.ensures.2)
    (refl, over_parts c.steps-pairs.new.rows _ c.args.rows.now (2 * (c.args.n - 1)) (rows_length c.args.method c.args.n c.args.xs.now c.requires.0) c.steps-pairs.ensures.0 c.steps-pairs.ensures.1)
