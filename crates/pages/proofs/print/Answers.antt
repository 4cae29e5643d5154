-- `pages::print` meets its contract: the page where the report is done. Assumes nothing.
use Rattle.std.proofs.Common.{rules, Err}
use mathlib.Core.Path.{◌≡◌}
use Rattle.pages.proofs.Ends.{counts_done, ready, printed, unprinted, not_refused}
use Rattle.pages.proofs.print.Goals as goal

pub returns-in_err-said : goal.returns-in_err-said
returns-in_err-said c =
    let q : c.from_residual.result ≡ Err c.in_err-said.field-0.0 = search rules in
    rw q (unprinted c.args.progress c.args.table.now _ c.args.said c.requires.said_value _ c.in_err-said.was c.requires.page_value)

pub returns-in_err-y : goal.returns-in_err-y
returns-in_err-y c = absurd (not_refused c.args.progress c.args.table.now _ c.args.said c.requires.said_value c.in_ok-said.was _ _ c.counts.ensures c.in_err-y.was)

pub put_page-requires : goal.put_page-requires
put_page-requires c =
    let r = ready c.args.progress c.args.table.now _ c.args.said c.requires.said_value c.in_ok-said.was _ (counts_done _ _ _ c.counts.ensures c.in_ok-y.was) in
    record { table_len = r.long; names_bound = r.few; in_bounds = r.roomy }

pub returns : goal.returns
returns c = printed c.args.progress c.args.table.now _ c.args.said c.requires.said_value c.in_ok-said.was _ (counts_done _ _ _ c.counts.ensures c.in_ok-y.was) c.requires.page_value c.put_page.ensures
