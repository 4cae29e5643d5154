-- `linkage::move_all` meets its contract. The invariant: the slots at the places below j are moved, and there are as many distances as there were. Assumes nothing.
use borrow.Author.Rules.{rules}
use native.Mathlib.Omega.{arith}
use mathlib.Core.Path.{refl, sym, ap, ◌∙◌}
use lib.ListN.{length, get_or}
use Rattle.lent.proofs.Range.{range_none, range_more, range_end}
use Rattle.linkage.specs.Inner.{drawn_at}
use Rattle.linkage.proofs.Forms.{length_drawn}
use Rattle.linkage.proofs.move_all.Goals as goal

pub loop-j-init : goal.loop-j-init
loop-j-init c = (search rules, sym (range_none _ _ _ _ (search rules)), refl)

pub move_one-requires : goal.move_one-requires
move_one-requires c =
    (c.requires.0, c.requires.2 c.loop-j.j (omega arith), c.requires.3, omega (arith, c.requires.4, c.loop-j.invariant.2), c.requires.5)

pub loop-j-preserved : goal.loop-j-preserved
unfolding drawn_at
loop-j-preserved c =
    let f = drawn_at c.args.method c.args.form c.args.n c.args.sizes.now c.args.slots.now c.args.pair.x.0 c.args.pair.y.0 c.args.pair.dxy in (
      omega arith,
      c.move_one.ensures ∙ ap (f c.loop-j.j) c.loop-j.invariant.1 ∙ sym (range_more f 0 c.loop-j.j c.args.d.now (search rules)),
      ap length c.move_one.ensures ∙ length_drawn c.args.method c.args.form c.args.n c.args.sizes.now c.args.pair.x.0 c.args.pair.y.0 c.args.pair.dxy (get_or c.args.slots.now c.loop-j.j 0) c.loop-j.d ∙ c.loop-j.invariant.2,
    )

pub returns : goal.returns
returns c = range_end _ _ _ _ _ _ c.loop-j.invariant.1 c.loop-j.invariant.0 (omega arith)
