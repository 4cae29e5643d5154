-- `hrp::estimate_from_prices` meets its contract. Assumes nothing.
use mathlib.Core.Path.{sym}
use native.Mathlib.Omega.{arith}
use lib.Seq.{length-take-le}
use Rattle.std.proofs.lemmas.Result.{err_from_is_err_and}
use Rattle.hrp.proofs.Estimates.{returns_fit, returns_pass, sampled_refused, sampled_done}
use Rattle.hrp.proofs.estimate_from_prices.Goals as goal

pub overflow_mul-cells : goal.overflow_mul-cells
overflow_mul-cells c = omega (arith, returns_fit _ _ _ _ c.requires.n_value _ c.sampled_returns.ensures.value _ _ _ c.in_ok-kept.was c.sampled_returns.ensures.out_after)

pub slice_bounds-made-end : goal.slice_bounds-made-end
slice_bounds-made-end c = omega (arith, returns_fit _ _ _ _ c.requires.n_value _ c.sampled_returns.ensures.value _ _ _ c.in_ok-kept.was c.sampled_returns.ensures.out_after, c.sampled_returns.auto.out)

pub slice_bounds-estimate-end : goal.slice_bounds-estimate-end
slice_bounds-estimate-end c = sym (length-take-le _ _ (omega (arith, returns_fit _ _ _ _ c.requires.n_value _ c.sampled_returns.ensures.value _ _ _ c.in_ok-kept.was c.sampled_returns.ensures.out_after, c.sampled_returns.auto.out)))

pub estimate-requires : goal.estimate-requires
estimate-requires c = record {
  n_value = returns_pass _ _ _ _ c.requires.n_value _ c.sampled_returns.ensures.value _ _ _ c.in_ok-kept.was c.sampled_returns.ensures.out_after;
  out_len = c.requires.out_len;
}

pub shape_of-out : goal.shape_of-out
shape_of-out c = c.estimate.auto.out

pub returns : goal.returns
returns c = sampled_done _ _ _ _ c.requires.n_value _ c.sampled_returns.ensures.value _ _ _ c.in_ok-kept.was c.sampled_returns.ensures.out_after _ _ _ c.estimate.ensures

pub returns-in_err-kept : goal.returns-in_err-kept
returns-in_err-kept c =
    let e = err_from_is_err_and c.from_residual.result c.from_residual.ensures.1 in
    rw (e.1, e.2) (sampled_refused _ _ _ _ c.requires.n_value _ c.sampled_returns.ensures.value _ _ _ c.in_err-kept.was)
