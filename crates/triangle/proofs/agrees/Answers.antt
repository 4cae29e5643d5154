-- `triangle::agrees` meets its contract. Assumes nothing.
use borrow.Author.Rules.{rules}
use mathlib.Core.Path.{◌≡◌, refl, sym, ap, ◌∙◌}
use mathlib.Core.Bool.{Bool, ◌&&◌}
use lib.Ieee.{ne}
use Rattle.arithmetic.proofs.Facts.{truth}
use Rattle.triangle.proofs.Bits.{equal_no_nan, and_unequal}
use Rattle.triangle.proofs.agrees.Goals as goal
use Rattle.triangle.proofs.agrees.Goals.{then-before-2, else-before-2}

pub float_to_bits-result : goal.float_to_bits-result
float_to_bits-result c = let p = equal_no_nan _ _ c.if-x-y.true in search (rules, p.0, p.1)

pub float_to_bits-result-then-before : goal.float_to_bits-result-then-before
float_to_bits-result-then-before c = let p = equal_no_nan _ _ c.if-x-y.true in search (rules, p.0, p.1)

pub returns-then-before : goal.returns-then-before
returns-then-before c = rw c.if-before.true refl

pub returns-then-x : goal.returns-then-x
returns-then-x c =
    let z : c.if-before-2.value ≡ (c.args.before && ne c.args.x c.args.x) = elim c.if-before-2.branch [
      | then-before-2 w ↦ rw w.if-before-2.true w.value-is
      | else-before-2 w ↦ rw w.if-before-2.false (w.value-is ∙ w.if-before-2.false)
    ] in
    ap (λ (b : Bool). b && ne c.args.y c.args.y) (sym c.if-x.true)
    ∙ and_unequal c.args.before c.if-before-2.value c.args.x c.args.y (truth c.well_formed.1.0.1) (truth c.well_formed.1.1.0.1) c.if-x-y.false z

pub returns-else-x : goal.returns-else-x
returns-else-x c =
    let z : c.if-before-2.value ≡ (c.args.before && ne c.args.x c.args.x) = elim c.if-before-2.branch [
      | then-before-2 w ↦ rw w.if-before-2.true w.value-is
      | else-before-2 w ↦ rw w.if-before-2.false (w.value-is ∙ w.if-before-2.false)
    ] in
    c.if-x.false
    ∙ ap (λ (b : Bool). b && ne c.args.y c.args.y) (sym c.if-x.false)
    ∙ and_unequal c.args.before c.if-before-2.value c.args.x c.args.y (truth c.well_formed.1.0.1) (truth c.well_formed.1.1.0.1) c.if-x-y.false z
