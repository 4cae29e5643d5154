-- `linkage::fill` meets its contract. Assumes nothing.
use Prim.Native.Nat.{ℕ, zero, suc, ◌≤◌}
use mathlib.Core.Path.{◌≡◌, sym, ap, ◌∙◌}
use mathlib.Core.List.{List, ◌++◌}
use native.Mathlib.Numerals.{add-one}
use native.Mathlib.Omega.{arith}
use lib.Ieee.{Float, nan}
use lib.ListN.{length, get_or, take, drop}
use lib.Seq.{take-suc, length-take-le}
use Rattle.lent.specs.Grid.{over}
use Rattle.lent.specs.Range.{range}
use Rattle.lent.proofs.Laws.{over_push}
use Rattle.lent.proofs.Range.{range_none, range_more}
use Rattle.linkage.specs.Merge.{copied}
use Rattle.linkage.proofs.fill.Goals as goal

-- the cells below k copied one by one are the first k over the front
copied_front : (xs d : List Float) (k : ℕ) → k ≤ length xs → k ≤ length d → range (copied xs) 0 k d ≡ over (take k xs) d
unfolding copied over
copied_front xs d zero h g = range_none _ _ _ _ (omega arith)
copied_front xs d (suc k) h g =
    rw (← add-one k) (range_more (copied xs) 0 k d (omega arith))
    ∙ ap (copied xs k) (copied_front xs d k (omega arith) (omega arith))
    ∙ over_push (take k xs) d k (get_or xs k nan) (length-take-le k xs (omega arith)) (omega arith)
    ∙ ap (λ (l : List Float). over l d) (sym (take-suc xs k nan (omega arith)))

pub returns : goal.returns
unfolding over
returns c =
    ap (λ (l : List Float). l ++ drop c.args.m c.args.d.now) c.copy_from_slice.ensures.after
    ∙ sym (copied_front c.args.xs.now c.args.d.now c.args.m c.requires.1 (omega arith) ∙ ap (λ (n : ℕ). take c.args.m c.args.xs.now ++ drop n c.args.d.now) (length-take-le c.args.m c.args.xs.now c.requires.1))
