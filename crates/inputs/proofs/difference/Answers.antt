-- `inputs::difference` meets its contract. Assumes nothing.
use native.Mathlib.Omega.{arith}
use Rattle.std.proofs.Common.{sym, length-take-le, rules}
use Rattle.inputs.proofs.Laws.{refused_answer, refused_laid, accepted_small, accepted_front, answer_is, laid_is}
use Rattle.inputs.proofs.difference.Goals as goal

pub returns-in_err-kept-clause-value : goal.returns-in_err-kept-clause-value
returns-in_err-kept-clause-value c = let e = rw c.requires at c.resample_prices.ensures.value in
    rw (← refused_answer _ _ _ _ _ _ _ e c.in_err-kept.was) (search (rules, c.in_err-kept.was))

pub returns-in_err-kept-clause-out_after : goal.returns-in_err-kept-clause-out_after
returns-in_err-kept-clause-out_after c = let e = rw c.requires at c.resample_prices.ensures.value in
    refused_laid _ _ _ _ _ _ _ e c.in_err-kept.was _ c.clear.ensures

pub overflow_mul-cells : goal.overflow_mul-cells
overflow_mul-cells c = let e = rw c.requires at c.resample_prices.ensures.value in
    omega (arith, accepted_small _ _ _ _ _ _ _ e c.in_ok-kept.was)

pub slice_bounds-returns_from_prices-end : goal.slice_bounds-returns_from_prices-end
slice_bounds-returns_from_prices-end c = let e = rw c.requires at c.resample_prices.ensures.value in
    omega (arith, accepted_small _ _ _ _ _ _ _ e c.in_ok-kept.was)

pub slice_bounds-returns_from_prices-end-2 : goal.slice_bounds-returns_from_prices-end-2
slice_bounds-returns_from_prices-end-2 c = let e = rw c.requires at c.resample_prices.ensures.value in
    sym (length-take-le _ _ (omega (arith, accepted_small _ _ _ _ _ _ _ e c.in_ok-kept.was)))

pub returns-clause-value : goal.returns-clause-value
returns-clause-value c = let e = rw c.requires at c.resample_prices.ensures.value in
    let f = accepted_front _ _ _ _ _ _ _ e c.in_ok-kept.was _ (rw c.requires at c.resample_prices.ensures.out_after) in
    answer_is _ _ _ _ _ _ _ e c.in_ok-kept.was _ _ (rw (f, c.clear.auto.out) at c.returns_from_prices.ensures.value)

pub returns-clause-out_after : goal.returns-clause-out_after
returns-clause-out_after c = let e = rw c.requires at c.resample_prices.ensures.value in
    let f = accepted_front _ _ _ _ _ _ _ e c.in_ok-kept.was _ (rw c.requires at c.resample_prices.ensures.out_after) in
    laid_is _ _ _ _ _ _ _ e c.in_ok-kept.was _ _ (rw (f, c.clear.auto.out) at c.returns_from_prices.ensures.out_after)
