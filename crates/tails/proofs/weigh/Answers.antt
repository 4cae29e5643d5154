-- `tails::weigh` meets its contract. Assumes nothing.
use mathlib.Core.Path.{sym, ◌∙◌}
use Rattle.std.proofs.lemmas.Result.{err_from_is_err_and}
use Rattle.refusal.proofs.Tables.{done_refused}
use Rattle.tails.specs.Inner.{measure_call}
use Rattle.tails.proofs.Outcomes.{sizes_refused, shape_refused, low_refused, weighed, weights_first}
use Rattle.tails.proofs.weigh.Goals as goal

pub returns-in_err-judge_sizes : goal.returns-in_err-judge_sizes
returns-in_err-judge_sizes c =
    let m = measure_call c.args.returns.now c.args.return_rows c.args.return_columns
    c.args.covariance.now c.args.rows c.args.columns c.args.assets.now c.args.confidence c.args.room in
    let p = err_from_is_err_and c.from_residual.result c.from_residual.ensures.1 in
    record {
      value = rw (p.1, p.2) (sym (sizes_refused m _ (sym c.judge_sizes.ensures ∙ c.in_err-judge_sizes.was)));
      w_after = λ d. absurd (done_refused _ (sym d ∙ p.1));
    }

pub returns-in_err-judge_shape : goal.returns-in_err-judge_shape
returns-in_err-judge_shape c =
    let m = measure_call c.args.returns.now c.args.return_rows c.args.return_columns
    c.args.covariance.now c.args.rows c.args.columns c.args.assets.now c.args.confidence c.args.room in
    let s = sym c.judge_sizes.ensures ∙ c.in_ok-judge_sizes.was in
    let p = err_from_is_err_and c.from_residual-in_err-judge_shape.result c.from_residual-in_err-judge_shape.ensures.1 in
    record {
      value = rw (p.1, p.2) (sym (shape_refused m _ s (sym c.judge_shape.ensures ∙ c.in_err-judge_shape.was)));
      w_after = λ d. absurd (done_refused _ (sym d ∙ p.1));
    }

pub returns-in_err-inverse_variance_weights : goal.returns-in_err-inverse_variance_weights
returns-in_err-inverse_variance_weights c =
    let m = measure_call c.args.returns.now c.args.return_rows c.args.return_columns
    c.args.covariance.now c.args.rows c.args.columns c.args.assets.now c.args.confidence c.args.room in
    let s = sym c.judge_sizes.ensures ∙ c.in_ok-judge_sizes.was in
    let t = sym c.judge_shape.ensures ∙ c.in_ok-judge_shape.was in
    let p = err_from_is_err_and c.from_residual-in_err-inverse_variance_weights.result c.from_residual-in_err-inverse_variance_weights.ensures.1 in
    let r = sym c.inverse_variance_weights.ensures.value ∙ c.in_err-inverse_variance_weights.was in
    record {
      value = rw (p.1, p.2) (sym (low_refused m s t _ c.requires _ r));
      w_after = λ d. absurd (done_refused _ (sym d ∙ p.1));
    }

pub returns : goal.returns
returns c =
    let m = measure_call c.args.returns.now c.args.return_rows c.args.return_columns
    c.args.covariance.now c.args.rows c.args.columns c.args.assets.now c.args.confidence c.args.room in
    let s = sym c.judge_sizes.ensures ∙ c.in_ok-judge_sizes.was in
    let t = sym c.judge_shape.ensures ∙ c.in_ok-judge_shape.was in
    let o = sym c.inverse_variance_weights.ensures.value ∙ c.in_ok-inverse_variance_weights.was in
    record {
      value = sym (weighed m s t _ c.requires _ o);
      w_after = λ d. weights_first m s t _ c.requires _ o _ c.inverse_variance_weights.ensures.out_after;
    }
