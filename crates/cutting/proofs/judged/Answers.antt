-- `cutting::judged` meets its contract. Assumes nothing.
use Rattle.std.proofs.Common.{rules}
use mathlib.Core.Path.{sym}
use Rattle.month.proofs.Steps.{ok_at_line, err_at_line}
use Rattle.cutting.proofs.Steps.{judged_refused, judged_out, judged_on}
use Rattle.cutting.proofs.judged.Goals as goal

pub returns-in_err-y : goal.returns-in_err-y
returns-in_err-y c = λ t e.
    let f = c.in_err-y.field-0.0 in
    let told = judged_refused c.args.progress c.args.n c.args.room f.refusal f.line t c.in_err-y.was in
    search (rules, sym c.in_err-y.was, told)

pub returns-in_err-at_line : goal.returns-in_err-at_line
returns-in_err-at_line c = λ t e.
    let f = err_at_line _ _ _ _ c.at_line.ensures c.in_err-at_line.was in
    let told = judged_out c.args.progress c.args.n c.args.cells c.args.room c.in_ok-y.y c.in_ok-y.was c.judge_feed.result c.judge_feed.ensures t e _ f.0 in
    search (rules, f.1, told)

pub returns : goal.returns
returns c = λ t e. judged_on c.args.progress c.args.n c.args.cells c.args.room c.in_ok-y.y c.in_ok-y.was c.judge_feed.result c.judge_feed.ensures t e (ok_at_line _ _ _ _ c.at_line.ensures c.in_ok-at_line.was)
