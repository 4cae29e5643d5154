-- `month::take_held` meets its contract. Assumes nothing.
use Rattle.std.proofs.Common.{rules, Err}
use native.Mathlib.Omega.{arith}
use mathlib.Core.Path.{◌≡◌}
use Rattle.month.specs.Outcomes.{fault}
use Rattle.month.proofs.Steps.{ok_at_line, err_at_line, held_refused, held_few, held_counts, enter_refused, enter_on}
use Rattle.month.proofs.take_held.Goals as goal

pub returns-in_err-at_line : goal.returns-in_err-at_line
returns-in_err-at_line c =
    let e = err_at_line _ _ _ _ c.at_line.ensures c.in_err-at_line.was in
    let f = c.in_err-at_line.field-0.0 in
    let q : c.from_residual.result ≡ Err (fault f.refusal c.args.y.line) = search (rules, e.1) in
    rw q (held_refused c.args.table.now c.args.y c.args.w.now c.args.m c.judge_held.result c.judge_held.ensures f.refusal e.0)

pub job_number-job-requires : goal.job_number-job-requires
job_number-job-requires c = held_few c.args.table.now c.args.y c.args.w.now c.args.m c.judge_held.result c.judge_held.ensures (ok_at_line _ _ _ _ c.at_line.ensures c.in_ok-at_line.was)

pub returns-in_err-names : goal.returns-in_err-names
returns-in_err-names c =
    let e = err_at_line _ _ _ _ c.at_line-2.ensures c.in_err-names.was in
    let f = c.in_err-names.field-0.0 in
    let q : c.from_residual-in_err-names.result ≡ Err (fault f.refusal c.args.y.line) = search (rules, e.1) in
    rw q
    (enter_refused c.args.table.now c.args.y c.args.w.now c.args.m c.requires.fits c.judge_held.result c.judge_held.ensures (ok_at_line _ _ _ _ c.at_line.ensures c.in_ok-at_line.was)
    c.job_number-job.result c.job_number-job.ensures c.key_of-name.result c.key_of-name.ensures c.enter.result c.enter.new.table c.enter.ensures c.enter.auto.table f.refusal e.0)

pub overflow_add-result : goal.overflow_add-result
overflow_add-result c = omega (arith, held_counts c.args.table.now c.args.y c.args.w.now c.args.m c.judge_held.result c.judge_held.ensures (ok_at_line _ _ _ _ c.at_line.ensures c.in_ok-at_line.was))

pub overflow_add-result-2 : goal.overflow_add-result-2
overflow_add-result-2 c = omega (arith, held_counts c.args.table.now c.args.y c.args.w.now c.args.m c.judge_held.result c.judge_held.ensures (ok_at_line _ _ _ _ c.at_line.ensures c.in_ok-at_line.was), c.requires.m_bound)

pub overflow_add-result-3 : goal.overflow_add-result-3
overflow_add-result-3 c = omega (arith, held_counts c.args.table.now c.args.y c.args.w.now c.args.m c.judge_held.result c.judge_held.ensures (ok_at_line _ _ _ _ c.at_line.ensures c.in_ok-at_line.was))

pub returns : goal.returns
returns c =
    enter_on c.args.table.now c.args.y c.args.w.now c.args.m c.requires.fits c.judge_held.result c.judge_held.ensures (ok_at_line _ _ _ _ c.at_line.ensures c.in_ok-at_line.was)
    c.job_number-job.result c.job_number-job.ensures c.key_of-name.result c.key_of-name.ensures c.enter.result c.enter.new.table c.enter.ensures c.enter.auto.table _
    (ok_at_line _ _ _ _ c.at_line-2.ensures c.in_ok-names.was)
