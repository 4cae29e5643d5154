-- `clusters::inverse_variance_weights` meets its contract. Assumes nothing.
use mathlib.Core.Path.{sym, ◌∙◌}
use borrow.Author.Tests.{ltb-false}
use Rattle.refusal.specs.declared.Refusal.TheVariants.{ShortBuffer}
use Rattle.std.proofs.lemmas.Result.{err_from_is_err_and}
use Rattle.refusal.proofs.Tables.{then_done, then_refused}
use Rattle.clusters.proofs.Laws.{shares_stages, shares_refused, squared, all_listed, passed}
use Rattle.clusters.proofs.inverse_variance_weights.Goals as goal

pub returns-in_err-judge_sizes-clause-value : goal.returns-in_err-judge_sizes-clause-value
returns-in_err-judge_sizes-clause-value c =
    let p = err_from_is_err_and c.from_residual.result c.from_residual.ensures.1 in
    let r = sym c.judge_sizes.ensures ∙ c.in_err-judge_sizes.was in
    rw (p.1, p.2) (sym (shares_refused _ _ _ _ _ _ (shares_stages _ _ _ _ _ ∙ then_refused _ _ _ r)))

pub returns-in_err-refuse-clause-value : goal.returns-in_err-refuse-clause-value
returns-in_err-refuse-clause-value c =
    let p = err_from_is_err_and c.from_residual-in_err-refuse.result c.from_residual-in_err-refuse.ensures.1 in
    let s = sym c.judge_sizes.ensures ∙ c.in_ok-judge_sizes.was in
    let r = sym (rw c.clear.auto.out at c.refuse.ensures) ∙ c.in_err-refuse.was in
    rw (p.1, p.2) (sym (shares_refused _ _ _ _ _ _ (shares_stages _ _ _ _ _ ∙ then_done _ _ s ∙ then_refused _ _ _ r)))

pub returns-in_err-refuse-2-clause-value : goal.returns-in_err-refuse-2-clause-value
returns-in_err-refuse-2-clause-value c =
    let p = err_from_is_err_and c.from_residual-in_err-refuse-2.result c.from_residual-in_err-refuse-2.ensures.1 in
    let s = sym c.judge_sizes.ensures ∙ c.in_ok-judge_sizes.was in
    let q = sym (rw c.clear.auto.out at c.refuse.ensures) ∙ c.in_ok-refuse.was in
    let r = sym c.refuse-2.ensures ∙ c.in_err-refuse-2.was in
    rw (p.1, p.2) (sym (shares_refused _ _ _ _ _ _ (shares_stages _ _ _ _ _ ∙ then_done _ _ s ∙ then_done _ _ q ∙ then_refused _ _ _ r)))

pub returns-in_err-judge_risk-clause-value : goal.returns-in_err-judge_risk-clause-value
returns-in_err-judge_risk-clause-value c =
    let p = err_from_is_err_and c.from_residual-in_err-judge_risk.result c.from_residual-in_err-judge_risk.ensures.1 in
    let s = sym c.judge_sizes.ensures ∙ c.in_ok-judge_sizes.was in
    let q = sym (rw c.clear.auto.out at c.refuse.ensures) ∙ c.in_ok-refuse.was in
    let t = sym c.refuse-2.ensures ∙ c.in_ok-refuse-2.was in
    let r = sym c.judge_risk.ensures ∙ c.in_err-judge_risk.was in
    rw (p.1, p.2) (sym (shares_refused _ _ _ _ _ _ (shares_stages _ _ _ _ _ ∙ then_done _ _ s ∙ then_done _ _ q ∙ then_done _ _ t ∙ r)))

pub judge_risk-requires : goal.judge_risk-requires
judge_risk-requires c =
    let s = sym c.judge_sizes.ensures ∙ c.in_ok-judge_sizes.was in
    let q = sym c.refuse-2.ensures ∙ c.in_ok-refuse-2.was in
    let z = squared _ _ _ _ s q in
    record {
      cov_len = z.0;
      assets_len_bound = z.1;
    }

pub fill-requires : goal.fill-requires
fill-requires c =
    let s = sym c.judge_sizes.ensures ∙ c.in_ok-judge_sizes.was in
    let q = sym c.refuse-2.ensures ∙ c.in_ok-refuse-2.was in
    let u = sym c.judge_risk.ensures ∙ c.in_ok-judge_risk.was in
    record {
      listed_assets = all_listed _ _ _ _ s q u;
      assets_in_bounds = ltb-false _ _ (passed _ ShortBuffer (sym c.refuse.ensures ∙ c.in_ok-refuse.was));
    }
