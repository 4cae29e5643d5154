-- `linkage::move_one` meets its contract. Assumes nothing.
use borrow.Author.Tests.{eq-eqb, ne_eqb}
use native.Mathlib.Omega.{arith}
use mathlib.Core.Path.{sym}
use Rattle.triangle.proofs.Within.{within}
use Rattle.linkage.specs.Inner.{drawn}
use Rattle.linkage.proofs.Forms.{drawn_by}
use Rattle.linkage.proofs.move_one.Goals.{else-i-p-via-then-i-p+else-i-q, else-i-p-via-else-i-p}
use Rattle.linkage.proofs.move_one.Goals as goal

pub offset_bounds-d-k : goal.offset_bounds-d-k
offset_bounds-d-k c = omega (arith, (within _ _ _ _ _ _ c.requires.0 c.requires.4.first c.requires.1 (λ q. c.if-i-p.true (sym q)) c.requires.3 c.place-k.ensures).1)

pub bounds-d-k : goal.bounds-d-k
bounds-d-k c = (within _ _ _ _ _ _ c.requires.0 c.requires.4.first c.requires.1 (λ q. c.if-i-p.true (sym q)) c.requires.3 c.place-k.ensures).0

pub returns-then-i-q : goal.returns-then-i-q
returns-then-i-q c =
    drawn_by c.args.method c.args.form c.args.n c.args.sizes.now c.args.pair c.args.other.0 _ c.args.d.now _ _ _ c.requires.4 c.if-i-p.true c.if-i-q.true
    c.place-k.ensures c.at.ensures c.update-v.ensures c.put_both.ensures

pub returns-else-i-p : goal.returns-else-i-p
unfolding drawn
returns-else-i-p c =
    elim c.else-i-p.branch [
      | else-i-p-via-then-i-p+else-i-q w ↦ rw (ne_eqb _ _ w.if-i-p.true, eq-eqb _ _ w.if-i-q.false)
      | else-i-p-via-else-i-p w ↦ rw (eq-eqb _ _ w.if-i-p.false)
    ]
