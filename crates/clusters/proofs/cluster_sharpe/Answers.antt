-- `clusters::cluster_sharpe` meets its contract. Assumes nothing.
use mathlib.Core.Path.{sym, ◌∙◌}
use Rattle.std.proofs.lemmas.Result.{err_from_is_err_and}
use Rattle.refusal.proofs.Tables.{then_done, then_refused}
use Rattle.clusters.proofs.Laws.{sharpe_stages, sharpe_refused, squared, all_listed, same_number}
use Rattle.clusters.proofs.cluster_sharpe.Goals as goal

pub returns-in_err-judge_sizes : goal.returns-in_err-judge_sizes
returns-in_err-judge_sizes c =
    let p = err_from_is_err_and c.from_residual.result c.from_residual.ensures.1 in
    let r = sym c.judge_sizes.ensures ∙ c.in_err-judge_sizes.was in
    rw (p.1, p.2) (sym (sharpe_refused _ _ _ _ _ _ (sharpe_stages _ _ _ _ _ ∙ then_refused _ _ _ r)))

pub returns-in_err-refuse : goal.returns-in_err-refuse
returns-in_err-refuse c =
    let p = err_from_is_err_and c.from_residual-in_err-refuse.result c.from_residual-in_err-refuse.ensures.1 in
    let s = sym c.judge_sizes.ensures ∙ c.in_ok-judge_sizes.was in
    let r = sym c.refuse.ensures ∙ c.in_err-refuse.was in
    rw (p.1, p.2) (sym (sharpe_refused _ _ _ _ _ _ (sharpe_stages _ _ _ _ _ ∙ then_done _ _ s ∙ then_refused _ _ _ r)))

pub returns-in_err-refuse-2 : goal.returns-in_err-refuse-2
returns-in_err-refuse-2 c =
    let p = err_from_is_err_and c.from_residual-in_err-refuse-2.result c.from_residual-in_err-refuse-2.ensures.1 in
    let s = sym c.judge_sizes.ensures ∙ c.in_ok-judge_sizes.was in
    let q = sym c.refuse.ensures ∙ c.in_ok-refuse.was in
    let r = sym c.refuse-2.ensures ∙ c.in_err-refuse-2.was in
    rw (p.1, p.2) (sym (sharpe_refused _ _ _ _ _ _ (sharpe_stages _ _ _ _ _ ∙ then_done _ _ s ∙ then_done _ _ q ∙ then_refused _ _ _ r)))

pub returns-in_err-judge_risk : goal.returns-in_err-judge_risk
returns-in_err-judge_risk c =
    let p = err_from_is_err_and c.from_residual-in_err-judge_risk.result c.from_residual-in_err-judge_risk.ensures.1 in
    let s = sym c.judge_sizes.ensures ∙ c.in_ok-judge_sizes.was in
    let q = sym c.refuse.ensures ∙ c.in_ok-refuse.was in
    let t = sym c.refuse-2.ensures ∙ c.in_ok-refuse-2.was in
    let r = sym c.judge_risk.ensures ∙ c.in_err-judge_risk.was in
    rw (p.1, p.2) (sym (sharpe_refused _ _ _ _ _ _ (sharpe_stages _ _ _ _ _ ∙ then_done _ _ s ∙ then_done _ _ q ∙ then_done _ _ t ∙ r)))

pub judge_risk-requires : goal.judge_risk-requires
judge_risk-requires c =
    let s = sym c.judge_sizes.ensures ∙ c.in_ok-judge_sizes.was in
    let q = sym c.refuse.ensures ∙ c.in_ok-refuse.was in
    let z = squared _ _ _ _ s q in
    record {
      cov_len = z.0;
      assets_len_bound = z.1;
    }

pub sharpe-requires : goal.sharpe-requires
sharpe-requires c =
    let s = sym c.judge_sizes.ensures ∙ c.in_ok-judge_sizes.was in
    let q = sym c.refuse.ensures ∙ c.in_ok-refuse.was in
    let u = sym c.judge_risk.ensures ∙ c.in_ok-judge_risk.was in
    record {
      listed_assets = all_listed _ _ _ _ s q u;
      expected_len = same_number _ _ (sym c.refuse-2.ensures ∙ c.in_ok-refuse-2.was);
    }
