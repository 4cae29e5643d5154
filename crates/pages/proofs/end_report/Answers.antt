-- `pages::end_report` meets its contract: judged, the page cleared and printed, the table cleared. Assumes nothing.
use mathlib.Core.Path.{refl}
use Rattle.pages.proofs.Ends.{said_now, blank_now, report_ended}
use Rattle.pages.proofs.end_report.Goals as goal

pub print-listed-requires : goal.print-listed-requires
print-listed-requires c = record {
  said_value = said_now _ _ _ _ _ (c.judge_end-said.ensures c.args.table.now refl) c.clear.auto.out;
  page_value = blank_now _ _ c.clear.ensures c.clear.auto.out;
}

pub returns : goal.returns
returns c = report_ended c.args.table.now _ _ _ c.print-listed.ensures c.clear.auto.out c.clear-2.ensures
