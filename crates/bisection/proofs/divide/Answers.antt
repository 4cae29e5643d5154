-- `bisection::divide` meets its contract: the entries passed are divided, and the others stand as they were. Assumes nothing.
use Rattle.std.proofs.Common.{get_or, refl, ap, ◌∙◌, arith}
use lib.Ieee.{Float, nan, binary64, div}
use Rattle.lent.proofs.Laws.{unwritten}
use Rattle.lent.proofs.Fill.{tab_start, tab_step}
use Rattle.bisection.proofs.Halves.{tab_all}
use Rattle.bisection.proofs.divide.Goals as goal

pub loop-w-init : goal.loop-w-init
loop-w-init c = tab_start _ _

pub loop-w-preserved : goal.loop-w-preserved
loop-w-preserved c =
    tab_step (λ j. div binary64 (get_or c.args.ws.now j nan) c.args.s) _ _ c.args.ws.now _ _ refl c.loop-w.invariant
    (c.settled.ensures ∙ ap (λ (x : Float). div binary64 x c.args.s) (unwritten _ _ _ _ nan c.loop-w.invariant)) (omega arith)

pub returns : goal.returns
returns c = tab_all _ _ _ _ c.loop-w.invariant (omega arith) (omega arith)
