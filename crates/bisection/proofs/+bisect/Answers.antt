-- The proof of the cycle of calls {bisect}. The measure is the part's length, which is less in each half. What is asked of lists is in `Halves`. Assumes nothing.
use mathlib.Core.Path.{sym, ◌∙◌}
use native.Mathlib.Omega.{arith}
use Rattle.std.proofs.lemmas.Result.{err_from_is_err_and}
use Rattle.clusters.proofs.Sharing.{shared_done, shared_refused}
use Rattle.bisection.proofs.Halves.{bisect_none, bisect_one, no_split, left_refused, both_halves}
use Rattle.bisection.proofs.+bisect.Goals as goal

pub returns-then-m-eq0 : goal.returns-then-m-eq0
returns-then-m-eq0 t c = shared_done _ ∙ sym (bisect_none _ _ _ _ _ c.if-m-eq0.true)

pub returns-then-m-eq1 : goal.returns-then-m-eq1
returns-then-m-eq1 t c = shared_done _ ∙ rw c.give.ensures (sym (bisect_one _ _ _ _ _ c.if-m-eq1.true))

pub returns-in_err-f : goal.returns-in_err-f
returns-in_err-f t c = let p = err_from_is_err_and c.from_residual.result c.from_residual.ensures.1 in
    rw p.1 (shared_refused _ _ ∙ sym (no_split _ _ _ _ _ (omega (arith, c.if-m-eq0.false, c.if-m-eq1.false)) _ (sym c.split.ensures ∙ c.in_err-f.was)))

pub returns-in_err-bisect : goal.returns-in_err-bisect
returns-in_err-bisect t c = let p = err_from_is_err_and c.from_residual-in_err-bisect.result c.from_residual-in_err-bisect.ensures.1 in
    rw p.1 (shared_refused _ _
    ∙ sym (left_refused _ _ _ _ _ (omega (arith, c.if-m-eq0.false, c.if-m-eq1.false)) _ (sym c.split.ensures ∙ c.in_ok-f.was) c.bisect.result _ c.bisect.ensures _ c.in_err-bisect.was))

pub returns : goal.returns
returns t c =
    both_halves _ _ _ _ _ (omega (arith, c.if-m-eq0.false, c.if-m-eq1.false)) _ (sym c.split.ensures ∙ c.in_ok-f.was) c.bisect.result _ c.bisect.ensures c.in_ok-bisect.was c.bisect-2.ensures
