-- `tails::measure_in` meets its contract. Assumes nothing.
use mathlib.Core.Path.{ap}
use borrow.Author.Rules.{rules}
use lib.ListN.{length}
use Rattle.std.proofs.lemmas.Result.{err_from_is_err_and}
use Rattle.std.specs.Prelude.{Ok}
use Rattle.tails.specs.Inner.{measure_call}
use Rattle.tails.proofs.Outcomes.{ready, measure_answered}
use Rattle.tails.proofs.measure_in.Goals as goal

pub returns-in_err-weigh : goal.returns-in_err-weigh
returns-in_err-weigh c =
    let m = measure_call c.args.returns.now c.args.return_rows c.args.return_columns
    c.args.covariance.now c.args.rows c.args.columns c.args.assets.now c.args.confidence (length c.args.series.now) in
    let p = err_from_is_err_and c.from_residual.result c.from_residual.ensures.1 in
    rw (p.1, p.2) (measure_answered m _ _ c.weigh.ensures.value c.weigh.ensures.w_after c.args.measure _ (rw c.in_err-weigh.was))

pub measure_after-requires : goal.measure_after-requires
measure_after-requires c =
    let m = measure_call c.args.returns.now c.args.return_rows c.args.return_columns
    c.args.covariance.now c.args.rows c.args.columns c.args.assets.now c.args.confidence (length c.args.series.now) in
    ready m _ _ c.weigh.ensures.value c.weigh.ensures.w_after (search rules) c.in_ok-weigh.was

pub returns : goal.returns
returns c =
    let m = measure_call c.args.returns.now c.args.return_rows c.args.return_columns
    c.args.covariance.now c.args.rows c.args.columns c.args.assets.now c.args.confidence (length c.args.series.now) in
    measure_answered m _ _ c.weigh.ensures.value c.weigh.ensures.w_after c.args.measure _ (rw c.in_ok-weigh.was (ap Ok c.measure_after.ensures))
