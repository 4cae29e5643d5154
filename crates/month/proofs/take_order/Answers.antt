-- `month::take_order` meets its contract. Assumes nothing.
use Rattle.std.proofs.Common.{rules}
use native.Mathlib.Omega.{arith}
use mathlib.Core.List.{[]}
use Rattle.slips.specs.declared.Slip.TheVariants.{Order}
use Rattle.month.proofs.Steps.{ok_at_line, err_at_line, told_refused, order_counts, order_on}
use Rattle.month.proofs.take_order.Goals as goal

pub returns-in_err-at_line : goal.returns-in_err-at_line
returns-in_err-at_line c = λ t w.
    let e = err_at_line _ _ _ _ c.at_line.ensures c.in_err-at_line.was in
    let told = told_refused c.args.y (Order c.args.k) c.judge_order.result c.judge_order.ensures _ e.0 t w in
    search (rules, e.1, told)

pub overflow_add-result : goal.overflow_add-result
overflow_add-result c = omega (arith, order_counts c.args.y c.args.k c.requires c.judge_order.result c.judge_order.ensures (ok_at_line _ _ _ _ c.at_line.ensures c.in_ok-at_line.was) [])

pub overflow_add-result-2 : goal.overflow_add-result-2
overflow_add-result-2 c = omega (arith, order_counts c.args.y c.args.k c.requires c.judge_order.result c.judge_order.ensures (ok_at_line _ _ _ _ c.at_line.ensures c.in_ok-at_line.was) [])

pub returns : goal.returns
returns c = order_on c.args.y c.args.k c.requires c.judge_order.result c.judge_order.ensures (ok_at_line _ _ _ _ c.at_line.ensures c.in_ok-at_line.was)
