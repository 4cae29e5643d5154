-- `month::take_next` meets its contract. Assumes nothing.
use Rattle.std.proofs.Common.{rules, Err}
use mathlib.Core.Path.{◌≡◌, sym}
use Rattle.month.specs.Outcomes.{fault}
use Rattle.month.proofs.Steps.{ok_at_line, err_at_line, slip_small, next_refused, next_misfit, next_fits, next_on}
use Rattle.month.proofs.take_next.Goals as goal

pub returns-in_err-y : goal.returns-in_err-y
returns-in_err-y c =
    let f = c.in_err-y.field-0.0 in
    let q : c.from_residual.result ≡ c.args.progress = search (rules, sym c.in_err-y.was) in
    rw q (next_refused c.args.table.now c.args.line.now c.args.progress f.refusal f.line c.in_err-y.was)

pub returns-in_err-at_line : goal.returns-in_err-at_line
returns-in_err-at_line c =
    let e = err_at_line _ _ _ _ c.at_line.ensures c.in_err-at_line.was in
    let f = c.in_err-at_line.field-0.0 in
    let q : c.from_residual-in_err-at_line.result ≡ Err (fault f.refusal c.in_ok-y.y.line) = search (rules, e.1) in
    rw q (next_misfit c.args.table.now c.args.line.now c.args.progress c.in_ok-y.y c.in_ok-y.was c.judge_table.result c.judge_table.ensures f.refusal e.0)

pub take_slip-requires : goal.take_slip-requires
take_slip-requires c = record {
  fits = next_fits c.args.table.now c.args.line.now c.args.progress c.in_ok-y.y c.in_ok-y.was c.judge_table.result c.judge_table.ensures (ok_at_line _ _ _ _ c.at_line.ensures c.in_ok-at_line.was);
  small_slip = slip_small c.args.line.now c.read_slip.result c.read_slip.ensures;
}

pub returns : goal.returns
returns c =
    next_on c.args.table.now c.args.line.now c.args.progress c.in_ok-y.y c.in_ok-y.was c.judge_table.result c.judge_table.ensures (ok_at_line _ _ _ _ c.at_line.ensures c.in_ok-at_line.was)
    _ c.read_slip.result c.take_slip.result c.take_slip.new.table c.piece.ensures c.read_slip.ensures c.take_slip.ensures
