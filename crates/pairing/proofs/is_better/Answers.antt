-- `pairing::is_better` meets its contract. Assumes nothing.
use mathlib.Core.Path.{◌≡◌, sym, ◌∙◌}
use mathlib.Core.Bool.{true, false}
use Rattle.pairing.specs.Pairing.{better, near}
use Rattle.pairing.proofs.is_better.Goals.{then-not-best-via-then-not-best, then-not-best-via-else-not-best+then-x-best}
use Rattle.pairing.proofs.is_better.Goals as goal

pub returns-then-not-best : goal.returns-then-not-best
unfolding better
returns-then-not-best c =
    elim c.then-not-best.branch [
      | then-not-best-via-then-not-best w ↦ simp w.if-not-best.true
      | then-not-best-via-else-not-best+then-x-best w ↦ simp (w.if-not-best.false, w.if-x-best.true)
    ]

pub returns-then-is_near : goal.returns-then-is_near
unfolding better
returns-then-is_near c =
    let e : near _ _ ≡ true = sym c.is_near.ensures ∙ c.if-is_near.true in
    simp (c.if-not-best.false, c.if-x-best.false, e, ← c.ordered.ensures.low, ← c.ordered.ensures.high) c.comes_before.ensures

pub returns : goal.returns
unfolding better
returns c =
    let e : near _ _ ≡ false = sym c.is_near.ensures ∙ c.if-is_near.false in
    simp (c.if-not-best.false, c.if-x-best.false, e)
