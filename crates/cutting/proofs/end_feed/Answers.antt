-- `cutting::end_feed` meets its contract. Assumes nothing.
use Rattle.std.proofs.Common.{rules, Err}
use mathlib.Core.Path.{◌≡◌, sym}
use Rattle.month.specs.Outcomes.{fault}
use Rattle.month.proofs.Steps.{ok_at_line, err_at_line}
use Rattle.cutting.proofs.Steps.{ended_refused, ended_whole, ended_broken}
use Rattle.cutting.proofs.end_feed.Goals as goal

pub returns-in_err-y : goal.returns-in_err-y
returns-in_err-y c =
    let f = c.in_err-y.field-0.0 in
    let q : c.from_residual.result ≡ c.args.feed.progress = search (rules, sym c.in_err-y.was) in
    rw q (ended_refused c.args.feed c.args.held.now _ c.clear.ensures f.refusal f.line c.in_err-y.was)

pub returns-in_err-at_line : goal.returns-in_err-at_line
returns-in_err-at_line c =
    let e = err_at_line _ _ _ _ c.at_line.ensures c.in_err-at_line.was in
    let f = c.in_err-at_line.field-0.0 in
    let q : c.from_residual-in_err-at_line.result ≡ Err (fault f.refusal c.in_ok-y.y.line) = search (rules, e.1) in
    rw q (ended_broken c.args.feed c.args.held.now _ c.clear.ensures c.in_ok-y.y c.in_ok-y.was _ c.refuse-broken.ensures f.refusal e.0)

pub returns : goal.returns
returns c = ended_whole c.args.feed c.args.held.now _ c.clear.ensures c.in_ok-y.y c.in_ok-y.was _ c.refuse-broken.ensures (ok_at_line _ _ _ _ c.at_line.ensures c.in_ok-at_line.was)
