-- `linkage::scan_all` meets its contract. The invariant: the best so far is that of the rows below i. Assumes nothing.
use borrow.Author.Rules.{rules}
use native.Mathlib.Omega.{arith}
use mathlib.Core.Path.{sym, ap, subst}
use lib.ListN.{get_or}
use Rattle.pairing.specs.declared.Best.{Best}
use Rattle.triangle.specs.Inner.{held_at}
use Rattle.triangle.proofs.Places.{less_off}
use Rattle.linkage.proofs.Packed.{Found, row_found, reached_start, reached_next, reached_low, reached_end}
use Rattle.linkage.proofs.scan_all.Goals as goal

pub at-requires : goal.at-requires
at-requires c =
    (c.requires.0, c.requires.3 0 (omega arith), c.requires.3 1 (omega arith), less_off _ _ (c.requires.4 0 1 (omega arith) (omega arith)), c.requires.5, c.requires.6)

pub loop-i-init : goal.loop-i-init
loop-i-init c =
    (search rules, reached_start (held_at c.args.form c.args.n c.args.d.now) c.args.ids.now c.args.slots.now c.args.m c.paired-best.result (rw (← c.at.ensures) c.paired-best.ensures), ap (λ (b : Best). b.found) c.paired-best.ensures)

pub scan_row-row-requires : goal.scan_row-row-requires
scan_row-row-requires c =
    let r = reached_low (held_at c.args.form c.args.n c.args.d.now) c.args.ids.now c.args.slots.now c.args.m c.loop-i.i c.loop-i.best c.loop-i.pairs c.loop-i.from c.loop-i.invariant.1 (omega arith) c.requires.1 c.requires.2 in
    (c.requires.0, c.requires.2, r.0, omega arith, r.1, c.requires.3, c.requires.4, c.requires.5, c.requires.6, c.loop-i.invariant.2)

pub overflow_add-pairs : goal.overflow_add-pairs
overflow_add-pairs c =
    let r = reached_low (held_at c.args.form c.args.n c.args.d.now) c.args.ids.now c.args.slots.now c.args.m c.loop-i.i c.loop-i.best c.loop-i.pairs c.loop-i.from c.loop-i.invariant.1 (omega arith) c.requires.1 c.requires.2 in
    omega (arith, r, c.scan_row-row.ensures.1, c.requires.2)

pub loop-i-preserved : goal.loop-i-preserved
loop-i-preserved c =
    (omega arith, reached_next (held_at c.args.form c.args.n c.args.d.now) c.args.ids.now c.args.slots.now c.args.m c.loop-i.i c.loop-i.best c.loop-i.pairs c.loop-i.from _ _ c.loop-i.invariant.1 (omega arith) c.requires.1 c.scan_row-row.ensures.0 c.scan_row-row.ensures.1, subst Found (sym c.scan_row-row.ensures.0) (row_found (held_at c.args.form c.args.n c.args.d.now) c.args.ids.now c.args.slots.now (get_or c.args.slots.now c.loop-i.i 0) c.loop-i.from c.args.m c.loop-i.best c.loop-i.invariant.2))

pub returns : goal.returns
returns c =
    reached_end (held_at c.args.form c.args.n c.args.d.now) c.args.ids.now c.args.slots.now c.args.m c.loop-i.i c.loop-i.best c.loop-i.pairs c.loop-i.from c.loop-i.invariant.1 (omega arith) (omega arith)
