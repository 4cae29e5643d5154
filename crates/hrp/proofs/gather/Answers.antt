-- `hrp::gather` meets its contract. Assumes nothing.
use mathlib.Core.Path.{refl, sym, ◌∙◌}
use Rattle.std.proofs.lemmas.Result.{err_from_is_err_and}
use Rattle.hrp.proofs.Estimates.{gathered_refused, gathered_given, gathered_returns, gathered_prices, returns_sized, prices_sized}
use Rattle.hrp.proofs.gather.Goals as goal

pub returns-in_err-said : goal.returns-in_err-said
returns-in_err-said c =
    let e = err_from_is_err_and c.from_residual.result c.from_residual.ensures.1 in
    rw (e.1, e.2) (gathered_refused _ _ _ _ c.in_err-said.was)

pub returns-then-not-is_absent : goal.returns-then-not-is_absent
returns-then-not-is_absent c = gathered_given _ _ c.in_ok-said.was _ refl _ (sym c.is_absent.ensures ∙ c.if-not-is_absent.true)

pub estimate-requires : goal.estimate-requires
estimate-requires c = record {
  n_value = returns_sized _ _ c.in_ok-said.was (sym c.is_absent.ensures ∙ c.if-not-is_absent.false) c.requires.hrp_fitting _ _ c.in-Some.is;
  out_len = c.requires.out_len;
}

pub estimate_from_prices-requires : goal.estimate_from_prices-requires
estimate_from_prices-requires c = record {
  n_value = rw c.rows_in-rows.ensures (prices_sized _ _ c.in_ok-said.was (sym c.is_absent.ensures ∙ c.if-not-is_absent.false) c.requires.hrp_fitting c.in-None.is);
  out_len = c.requires.out_len;
}

pub shape_of-out-in-Some : goal.shape_of-out-in-Some
shape_of-out-in-Some c = c.estimate.auto.out

pub returns-in-Some : goal.returns-in-Some
returns-in-Some c = gathered_returns _ _ c.in_ok-said.was (sym c.is_absent.ensures ∙ c.if-not-is_absent.false) _ _ _ _ c.in-Some.is c.estimate.ensures

pub shape_of-out-in-None : goal.shape_of-out-in-None
shape_of-out-in-None c = c.estimate_from_prices.auto.out

pub returns-in-None : goal.returns-in-None
returns-in-None c = gathered_prices _ _ c.in_ok-said.was (sym c.is_absent.ensures ∙ c.if-not-is_absent.false) _ _ c.in-None.is (rw c.rows_in-rows.ensures at c.estimate_from_prices.ensures)
